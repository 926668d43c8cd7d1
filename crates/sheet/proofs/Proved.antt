-- The crate's promises, proved. Assumes nothing.
use mathlib.Core.Path.{◌≡◌, refl, sym}
use mathlib.Core.Bool.{true, false}
use borrow.Author.Tests.{eq-eqb, ne_eqb}
use Rattle.refusal.specs.Table.{accepted}
use Rattle.hash.specs.State.{fresh}
use Rattle.slots.specs.Slots.{waiting_slot}
use Rattle.lines.specs.declared.Stop.{Stop}
use Rattle.lines.specs.Reading.{is_good}
use Rattle.sheet.specs.Filling.{listing, start}
use Rattle.sheet.specs.Promises.{Promises}
use Rattle.sheet.proofs.Verdicts.{header_ill, header_bad, header_good, entry_note, entry_length, entry_loop, entry_good, line_ill, line_well, header_decides, notes_decide, this_decides, rest_decides, text_follows, nothing_follows}
use Rattle.sheet.proofs.Verdicts.{header_numbered, header_read, entry_numbered, line_numbered, line_read, verdict_once}
use Rattle.sheet.specs.Judging.{verdict_at, verdict_of, all_good, entries_at, with_notes}

ill : (s : Stop) → (s.wanted ≡ 0 → ⊥) → is_good s ≡ false
ill s bad = ne_eqb s.wanted 0 bad

well : (s : Stop) → s.wanted ≡ 0 → is_good s ≡ true
well s good = eq-eqb s.wanted 0 good

pub proved : Promises
unfolding start listing waiting_slot fresh verdict_at verdict_of all_good entries_at with_notes
proved =
    record {
      header_at_lem = λ text at. refl;
      of_header = λ h.
          record {
            ill_formed = λ bad. header_ill h (ill h.stop bad);
            bad_count = λ good. header_bad h (well h.stop good);
            good = λ good. header_good h (well h.stop good);
          };
      of_entry = λ last e. record { bad_note = entry_note last e; bad_length_lem = entry_length last e; bad_loop_lem = entry_loop last e; good = entry_good last e };
      of_line = λ last l.
          record { ill_formed = λ bad. line_ill last l (ill l.stop bad); well_formed = λ good. line_well last l (well l.stop good) };
      judges = λ header last e line.
          record {
            header_told = header_numbered header;
            header_kept = λ read good. header_read header read (sym good);
            entry_told = entry_numbered last e;
            line_told = line_numbered last line;
            line_kept = λ read good. line_read last line read (sym good);
          };
      good_told = refl;
      bad_told = λ bad. refl;
      verdict_once = verdict_once;
      of_notes = λ text at line last.
          record {
            this = λ notes bad. this_decides text notes at line last _ refl _ refl bad;
            rest = λ notes good. rest_decides text notes at line last _ refl _ refl good;
            follows = text_follows text at line last;
            ends = nothing_follows text at line last;
          };
      of_sheet = λ text at.
          record { header = λ bad. sym (header_decides text at _ _ refl refl bad); notes = λ good. notes_decide text at _ _ refl refl good };
      starts = λ h v good. rw (eq-eqb v.number accepted good);
      starts_none = λ h v bad. rw (ne_eqb v.number accepted bad);
      listed = λ text at. refl;
      of_filling = λ text at s e es. record { no_entry_lem = refl; more_entries = λ notes. refl; no_note = refl; more_notes = refl; counted = λ listed. refl };
    }
