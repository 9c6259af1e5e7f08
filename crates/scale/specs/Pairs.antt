-- The scale pair: two scales side by side. Assumes nothing.
use Rattle.std.specs.Prelude.{◌&&◌}
use Rattle.scale.specs.declared.pair.Pair.{Pair}
use Rattle.scale.specs.Semiring.{Ops}

abbrev pub pair : {A B : Type 0} → A → B → Pair A B
pair a b = record { first = a; second = b }

abbrev pub pair_ops : {A B : Type 0} → Ops A → Ops B → Ops (Pair A B)
pair_ops s t = record {
  nothing = pair s.nothing t.nothing;
  one = pair s.one t.one;
  plus = λ x y. pair (s.plus x.first y.first) (t.plus x.second y.second);
  times = λ x y. pair (s.times x.first y.first) (t.times x.second y.second);
  priced = λ p. pair (s.priced p) (t.priced p);
  vanishes = λ x. s.vanishes x.first && t.vanishes x.second;
}
