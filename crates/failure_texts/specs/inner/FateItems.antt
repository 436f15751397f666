-- the items of a failure list, fate by fate
use Rattle.std.specs.Prelude.{List, flat_map}
use Rattle.plan_terms.specs.Terms.{Link}
use Rattle.text_kit.specs.Terms.{Item}
use Rattle.model_reader.specs.Failures.{state_items}
use Rattle.failure_texts.{specs.FailureTexts.able_state, specs.declared.fates.Fate.Fate}

-- the failure of a link, where it separates nothing
abbrev pub fate_items : List Link → Fate → List Item
fate_items links fate = flat_map (state_items links) (able_state links fate)
