-- Number fields and their endings. Assumes nothing.
use Prim.Native.Nat.{ℕ, ◌+◌}
use mathlib.Core.Path.{◌≡◌, sym, ◌∙◌}
use mathlib.Core.List.{List}
use mathlib.Core.Bool.{true, false}
use Rattle.std.specs.Prelude.{Some, None}
use Rattle.decimal.specs.Reading.{numeral_at}
use Rattle.decimal.specs.declared.Numeral.{Numeral}
use Rattle.lines.specs.declared.Fault.{Fault}
use Rattle.lines.specs.declared.Wanted.TheVariants
use Rattle.lines.specs.declared.Stop.{Stop}
use Rattle.lines.specs.Reading.{number, separator, good_stop, fault, fault_of, is_good, has_at, mark_at}
use Rattle.lines.specs.declared.Field.{Field}
use Rattle.lines.specs.Fields.{good_field, field_fault, field_behind, field_at, field_after}
use Rattle.lines.proofs.Marks.{mark_missing, mark_found, mark_lacks}

-- there is no number, or one, and its ending is there or not
module _ (text : List ℕ) (at ending : ℕ) where
  pub field_none : numeral_at text at ≡ None → field_at text at ending ≡ field_fault (fault number at)
  unfolding field_at field_behind
  field_none h = rw h

  module _ (n : Numeral) (h : numeral_at text at ≡ Some n) where
    pub field_open : has_at text n.next ending ≡ false → field_at text at ending ≡ field_fault (fault separator n.next)
    unfolding field_at field_behind
    field_open missing = rw h (simp missing)

    pub field_closed : has_at text n.next ending ≡ true → field_at text at ending ≡ good_field n.value (n.next + 1)
    unfolding field_at field_behind
    field_closed there = rw h (simp there)

    -- the same from what the ending's step answered
    pub field_stops : (f : Fault) → fault_of f ≡ mark_at text n.next ending separator → field_fault (fault_of f) ≡ field_at text at ending
    field_stops f e =
        let missing : has_at text n.next ending ≡ false = mark_lacks _ _ _ _ f e in
        rw (field_open missing, e, mark_missing text n.next ending separator missing)

    pub field_reads : (next : ℕ) → good_stop next ≡ mark_at text n.next ending separator → good_field n.value next ≡ field_at text at ending
    field_reads next e =
        let found = mark_found text n.next ending TheVariants.Separator next e in
        rw (found.1) (sym (field_closed found.0))

pub ruleset field_steps = (field_none, field_stops)

-- behind a fault
pub field_stays : (text : List ℕ) (s : Stop) (ending : ℕ) → is_good s ≡ false → field_after text s ending ≡ field_fault s
unfolding field_after
field_stays text s ending h = simp h
