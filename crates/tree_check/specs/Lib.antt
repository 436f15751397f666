pub mod Boxes
pub mod BoxValues
pub mod Trees
pub mod Testing
pub mod Proofs
pub mod Laws
pub mod Terms
pub mod inner
