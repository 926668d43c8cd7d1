-- A sheet with more text after it. Assumes nothing.
use Prim.Native.Nat.{ℕ, ◌+◌}
use mathlib.Core.Path.{◌≡◌, ap, ◌∙◌}
use mathlib.Core.List.{List, ◌∷◌, ◌++◌, append_assoc}
use native.Mathlib.Nat.{add-zero}
use native.Mathlib.Omega.{arith}
use lib.ListN.{length}
use Rattle.refusal.specs.Table.{form}
use Rattle.sheet.specs.Judging.{verdict_at, judged}
use Rattle.lines.specs.declared.Entry.{Entry}
use Rattle.sheet_promises.specs.Grammar.{Lines, no_line, line, AllObey, no_entry_lem, entry, IsSheet}
use Rattle.sheet_promises.specs.Faults.{FirstBad, later, follows, notes}
use Rattle.sheet_promises.proofs.Sheets.{bad_refused}

-- no line is bad, and then comes more
more_follows : (last : ℕ) (text : List ℕ) (es : List Entry) (now byte : ℕ) (rest : List ℕ) → Lines text es → AllObey last es
    → FirstBad now (length es) last (text ++ (byte ∷ rest)) form (now + length es)
more_follows last text es now byte rest no_line no_entry_lem = rw (add-zero now) follows
more_follows last text es now byte rest (line {text = front} {rest = behind} {e = e} {es = more} l ls) (entry o os) =
    let place : now + 1 + length more ≡ now + length (e ∷ more) = omega arith in
    later l (append_assoc front behind (byte ∷ rest)) o (rw place at (more_follows e.note behind more (now + 1) byte rest ls os))

pub text_after_lem : (text : List ℕ) (es : List Entry) → IsSheet text es → (byte : ℕ) (rest : List ℕ) → judged (text ++ (byte ∷ rest)) 0 ≡ verdict_at form (length es + 2)
text_after_lem text es s byte rest =
    let cut : text ++ (byte ∷ rest) ≡ s.header ++ (s.lines ++ (byte ∷ rest)) = ap (λ (t : List ℕ). t ++ (byte ∷ rest)) s.whole ∙ append_assoc s.header s.lines (byte ∷ rest) in
    let place : 2 + length es ≡ length es + 2 = omega arith in
    bad_refused (text ++ (byte ∷ rest)) 0 form (length es + 2)
    (notes s.header (s.lines ++ (byte ∷ rest)) (length es) s.is_header cut s.count_rule_lem (rw place at (more_follows 0 s.lines es 2 byte rest s.are_lines s.obeyed)))
