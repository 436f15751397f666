use Rattle.std.proofs.Common.{arith, inl, inr, refl}
use Rattle.share_covers.proofs.needs.link_need.Goals as goal

pub returns-in-None : goal.returns-in-None
returns-in-None c = record {
  pair = record { capacity = 0; cost = 0 };
  is_pair = inl (c.in-None.ensures.none.0 refl, refl, refl);
  is_need = record { most = omega arith; enough = inr (omega arith); least = λ other h. omega arith };
}
