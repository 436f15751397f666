-- the plan that the states' answers decide for
use Rattle.std.specs.Prelude.{if◌then◌else◌, nat_lt}
use Rattle.module_choice.specs.declared.fallback.Fallback.{Fallback}
use Rattle.plan_types.specs.declared.quality.Quality.{Quality}
use Rattle.share_covers.{specs.declared.choice.Chosen.Chosen, specs.declared.covers.Installed.Installed, specs.declared.routes.InstalledRoutes.InstalledRoutes, specs.declared.routes.InstalledRoutes.TheVariants.{Routed, Wide, Short}, specs.inner.Widened.widened}

-- the covers where the states answer with routings; else the fallback plan, beside a looser quality where it costs more than covers that are too wide
abbrev pub decided : Installed → Fallback → Quality → InstalledRoutes → Chosen
decided installed fallback quality (Routed routings) = record { counts = installed.counts; routings = routings; cost = installed.cost; quality = quality }
decided installed fallback quality (Wide evidence) = record {
  counts = fallback.counts;
  routings = fallback.routings;
  cost = fallback.cost;
  quality = if nat_lt installed.cost fallback.cost then widened evidence quality else quality;
}
decided installed fallback quality (Short state) = record { counts = fallback.counts; routings = fallback.routings; cost = fallback.cost; quality = quality }
