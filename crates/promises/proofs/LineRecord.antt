-- What demand 3 takes from a sheet: every note of its lines waits with a record that obeys the rules and has a digest of 32 bytes. Assumes nothing.
use mathlib.Core.Path.{◌≡◌, sym, ap, ◌∙◌}
use mathlib.Core.List.{List}
use mathlib.Core.Logic.{inl, inr}
use mathlib.Core.Bool.{true}
use Prim.Native.Nat.{ℕ, ◌≤◌}
use native.Mathlib.Decide.{dec_lt}
use native.Mathlib.Omega.{arith}
use lib.ListN.{length}
use Rattle.rules.specs.Rules.{obeys}
use Rattle.rules.proofs.Rules.{note_rule_is}
use Rattle.slots.specs.Slots.{waiting_slot}
use Rattle.session.specs.Sessions.{slot_of}
use Rattle.session.specs.Promises.{Unlisted}
use Rattle.slots.specs.declared.Slot.{Slot}
use Rattle.rules.specs.declared.Record.{Record}
use Rattle.session.specs.declared.Session.{Session}
use Rattle.sheet.specs.Judging.{sheet_of}
use Rattle.lines.specs.declared.Entry.{Entry}
use Rattle.sheet_promises.specs.Grammar.{no_entry_lem, ObeysRules, AllObey, entry, IsSheet}
use Rattle.sheet_promises.specs.Promises.{Among, first, further}
use Rattle.sheet_promises.proofs.Records.{rules_of, digest_of}
use Rattle.slots.proofs.Proved.{proved as slot}
use Rattle.sheet_promises.proofs.Proved.{proved}

-- a record that "obeys rules 3 and 4", with a digest of 32 bytes
pub record LineRecord (r : Record) : Type 0 where
  pub rules : obeys r ≡ true
  pub digest : length r.digest ≡ 32

-- a note that a session lists, and its record; nothing was accepted for it yet
pub record Lists (s : Session) (note : ℕ) (r : Record) : Type 0 where
  pub first : 1 ≤ note
  pub last : note ≤ 32
  pub slot : slot_of s note ≡ waiting_slot r

-- what each entry obeys, after the note before it
obeyed : {last : ℕ} {es : List Entry} → AllObey last es → (e : Entry) → Among e es → (before : ℕ) × ObeysRules before e
obeyed (no_entry_lem {last = last}) e among = elim among [ ]
obeyed {last} (entry o os) e first = (last, o)
obeyed (entry o os) e (further a) = obeyed os e a

module _ (text : List ℕ) (es : List Entry) (sheet : IsSheet text es) where
  module _ (e : Entry) (among : Among e es) where
    pub line_record : LineRecord e.sample
    line_record = record { rules = rules_of 0 es sheet.obeyed e among; digest = digest_of sheet.lines es sheet.are_lines e among }

    pub listed_there : Lists (sheet_of text).session e.note e.sample
    listed_there =
        let o = (obeyed sheet.obeyed e among).1 in
        let number = (note_rule_is _ e.note).0 o.note_rule_lem in
        record { first = number.0; last = number.1; slot = (proved.lists text es sheet).listed e among ∙ sym (slot.begins e.sample) }

  pub not_there : (note : ℕ) → ((e : Entry) → Among e es → e.note ≡ note → ⊥) → Unlisted (sheet_of text).session note
  not_there note none =
      elim (dec_lt 0 note) [
        | yes low ↦ elim (dec_lt 32 note) [
          | yes high ↦ inr (inl high)
          | no most ↦ inr (inr (ap (λ (x : Slot). x.status) ((proved.lists text es sheet).others note low (omega arith) none)))
        ]
        | no zero ↦ inl (omega arith)
      ]
