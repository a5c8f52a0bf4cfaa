-- Sides: one of two, the greater start, the lesser and the greater end, and what is combined of them.
use Rattle.std.specs.Prelude.{cond}
use Rattle.keys.specs.Order.{is_more}
use Rattle.kinds.specs.Bounds.{Bound, start_order, end_order}
use Rattle.bounds.specs.declared.sides.Side.{Side}
use Rattle.bounds.specs.declared.sides.Side.TheVariants.{First, Second}
use Rattle.bounds.specs.declared.sides.Sides.{Sides}

-- one of two, by the side that it comes from
abbrev pub sided {ℓ} : {A : Type ℓ} → Side → A → A → A
sided First a b = a
sided Second a b = b

abbrev pub other_side : Side → Side
other_side First = Second
other_side Second = First

-- the greater start, the lesser end, the greater end; of equals the one that Rust's `max` and `min` hand back
abbrev pub max_start : Bound → Bound → Side
max_start a b = cond (is_more (start_order a b)) First Second

abbrev pub min_end : Bound → Bound → Side
min_end a b = cond (is_more (end_order a b)) Second First

abbrev pub max_end : Bound → Bound → Side
max_end a b = cond (is_more (end_order a b)) First Second

abbrev pub sides : Side → Side → Sides
sides s e = record { start = s; end = e }

abbrev pub swap_sides : Sides → Sides
swap_sides p = sides (other_side p.start) (other_side p.end)
