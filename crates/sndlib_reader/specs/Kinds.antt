-- how the kinds of faults are written
use Rattle.std.specs.Prelude.{ℕ, List, codes}
use Rattle.text_kit.specs.Terms.{number_word}
use Rattle.sndlib_reader.{specs.declared.fault.Limited.TheVariants.{Name, Nodes, Links, Modules, Demands, Total}, specs.declared.fault.ReadKind.ReadKind, specs.declared.fault.ReadKind.TheVariants.{Header, Section, Token, Ended, Limit, Number, UnknownName, DoubleName, SelfLink, SelfDemand, ZeroModule, FixedLink}}

-- the word of each kind
abbrev pub kind_word : ReadKind → List ℕ
kind_word Header = codes "header"
kind_word Section = codes "section"
kind_word Token = codes "token"
kind_word Ended = codes "ended"
kind_word (Limit Name) = codes "limit-name"
kind_word (Limit Nodes) = codes "limit-nodes"
kind_word (Limit Links) = codes "limit-links"
kind_word (Limit Modules) = codes "limit-modules"
kind_word (Limit Demands) = codes "limit-demands"
kind_word (Limit Total) = codes "limit-total"
kind_word (Number fault) = number_word fault
kind_word UnknownName = codes "unknown-name"
kind_word DoubleName = codes "double-name"
kind_word SelfLink = codes "self-link"
kind_word SelfDemand = codes "self-demand"
kind_word ZeroModule = codes "zero-module"
kind_word FixedLink = codes "fixed-link"
