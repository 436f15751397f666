-- The words of this crate, passed on from one place to other crates. Declares nothing.
pub use Rattle.view_state.specs.NamedStates.{IsNamedState}
pub use Rattle.view_state.specs.StateViews.{IsStateView}
