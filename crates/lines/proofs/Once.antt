-- What a step answered is told once: two answers of the code that are told alike are one. Assumes nothing.
use Prim.Native.Nat.{ℕ}
use mathlib.Core.Path.{◌≡◌, refl, sym, ap, ◌∙◌}
use mathlib.Core.Bool.{cond}
use mathlib.Core.List.{List}
use lib.Dec.{eqb}
use Rattle.std.specs.Prelude.{Result, Ok, Err}
use Rattle.lines.specs.declared.Entry.{Entry}
use Rattle.lines.specs.declared.Fault.{Fault}
use Rattle.lines.specs.declared.Read.{Read}
use Rattle.lines.specs.declared.Wanted.{Wanted}
use Rattle.lines.specs.declared.Wanted.TheVariants
use Rattle.lines.specs.declared.Stop.{Stop}
use Rattle.lines.specs.Reading.{number_by, fault_of, stop_of}
use Rattle.lines.specs.declared.Field.{Field}
use Rattle.lines.specs.Fields.{DigestField, field_of, digest_of}
use Rattle.lines.specs.declared.NoteLine.{NoteLine}
use Rattle.lines.specs.Lines.{line_of}
use Rattle.lines.proofs.Marks.{wanted_not}

-- what is wanted by a number
wanted_by : ℕ → Wanted
wanted_by n = cond (eqb n 1) TheVariants.Word (cond (eqb n 2) TheVariants.Number (cond (eqb n 3) TheVariants.Separator TheVariants.Digit))

by_its_number : (w : Wanted) → wanted_by (number_by w) ≡ w
unfolding wanted_by
by_its_number TheVariants.Word = refl
by_its_number TheVariants.Number = refl
by_its_number TheVariants.Separator = refl
by_its_number TheVariants.Digit = refl

pub number_once : (v w : Wanted) → number_by v ≡ number_by w → v ≡ w
number_once v w e = sym (by_its_number v) ∙ ap wanted_by e ∙ by_its_number w

pub fault_once : (f g : Fault) → fault_of f ≡ fault_of g → f ≡ g
fault_once f g e =
    let wanted : f.wanted ≡ g.wanted = number_once _ _ (ap (λ (s : Stop). s.wanted) e) in
    let at : f.at ≡ g.at = ap (λ (s : Stop). s.at) e in
    λ i. record { wanted = wanted i; at = at i }

pub stop_once : (x y : Result ℕ Fault) → stop_of x ≡ stop_of y → x ≡ y
stop_once (Ok x) (Ok y) e = ap Ok (ap (λ (s : Stop). s.at) e)
stop_once (Ok x) (Err g) e = absurd (wanted_not g.wanted (sym (ap (λ (s : Stop). s.wanted) e)))
stop_once (Err f) (Ok y) e = absurd (wanted_not f.wanted (ap (λ (s : Stop). s.wanted) e))
stop_once (Err f) (Err g) e = ap Err (fault_once f g e)

pub field_once : (x y : Result (Read ℕ) Fault) → field_of x ≡ field_of y → x ≡ y
field_once (Ok x) (Ok y) e =
    let value : x.value ≡ y.value = ap (λ (f : Field). f.value) e in
    let next : x.next ≡ y.next = ap (λ (f : Field). f.stop.at) e in
    λ i. Ok (record { value = value i; next = next i })
field_once (Ok x) (Err g) e = absurd (wanted_not g.wanted (sym (ap (λ (f : Field). f.stop.wanted) e)))
field_once (Err f) (Ok y) e = absurd (wanted_not f.wanted (ap (λ (f : Field). f.stop.wanted) e))
field_once (Err f) (Err g) e = ap Err (fault_once f g (ap (λ (f : Field). f.stop) e))

pub digest_once : (x y : Result (Read (List ℕ)) Fault) → digest_of x ≡ digest_of y → x ≡ y
digest_once (Ok x) (Ok y) e =
    let value : x.value ≡ y.value = ap (λ (f : DigestField). f.digest) e in
    let next : x.next ≡ y.next = ap (λ (f : DigestField). f.stop.at) e in
    λ i. Ok (record { value = value i; next = next i })
digest_once (Ok x) (Err g) e = absurd (wanted_not g.wanted (sym (ap (λ (f : DigestField). f.stop.wanted) e)))
digest_once (Err f) (Ok y) e = absurd (wanted_not f.wanted (ap (λ (f : DigestField). f.stop.wanted) e))
digest_once (Err f) (Err g) e = ap Err (fault_once f g (ap (λ (f : DigestField). f.stop) e))

pub line_once : (x y : Result (Read Entry) Fault) → line_of x ≡ line_of y → x ≡ y
line_once (Ok x) (Ok y) e =
    let value : x.value ≡ y.value = ap (λ (l : NoteLine). l.entry) e in
    let next : x.next ≡ y.next = ap (λ (l : NoteLine). l.stop.at) e in
    λ i. Ok (record { value = value i; next = next i })
line_once (Ok x) (Err g) e = absurd (wanted_not g.wanted (sym (ap (λ (l : NoteLine). l.stop.wanted) e)))
line_once (Err f) (Ok y) e = absurd (wanted_not f.wanted (ap (λ (l : NoteLine). l.stop.wanted) e))
line_once (Err f) (Err g) e = ap Err (fault_once f g (ap (λ (l : NoteLine). l.stop) e))
