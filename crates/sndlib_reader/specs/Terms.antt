-- The words of this crate, passed on from one place to other crates. Declares nothing.
pub use Rattle.sndlib_reader.specs.Kinds.{kind_word}
pub use Rattle.sndlib_reader.specs.NetworkFiles.{IsReadWith, Spells, network_of}
pub use Rattle.sndlib_reader.specs.Spelling.{IsPartAfter, IsShortLink, NodeName, NodePart, SpellsDemand, SpellsPart, SpellsParts, header, link_items, module_items, node_pair_items, notes_of, parts_of}
