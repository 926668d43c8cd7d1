-- Whole lines: steps that follow one another, from what each of them answered. Assumes nothing.
use Prim.Native.Nat.{ℕ}
use mathlib.Core.Path.{◌≡◌, sym}
use mathlib.Core.List.{List, [], ◌∷◌}
use mathlib.Core.Bool.{true, false}
use Rattle.rules.specs.declared.Record.{Record}
use Rattle.lines.specs.declared.Fault.{Fault}
use Rattle.lines.specs.declared.Read.{Read}
use Rattle.lines.specs.Reading.{word, separator, tab, lf, good_stop, fault_of, is_good, mark_at, mark_after, word_at, word_after}
use Rattle.lines.specs.Fields.{field_fault, good_field, field_at, field_after, digest_fault, good_digest, digest_at, digest_after}
use Rattle.lines.specs.Lines.{good_line, line_fault, note_line, header_line}
use Rattle.lines.specs.Promises.{NoteSteps, HeaderSteps}
use Rattle.lines.proofs.Marks.{wants}

module _ (text : List ℕ) (at : ℕ) (s : NoteSteps text at) where
  pub line_bad : is_good s.close ≡ false → line_fault s.close ≡ note_line text at
  unfolding note_line
  line_bad h = rw (← s.begins, ← s.reads_note, ← s.reads_size, ← s.reads_start, ← s.reads_end, ← s.reads_digest, ← s.closes) (sym (simp h))

  pub line_good : is_good s.close ≡ true
      → record {
        stop = s.close;
        entry = record {
          note = s.note.value;
          sample = record { length = s.size.value; loop_start = s.start.value; loop_end = s.end.value; digest = s.digest.digest };
        };
      } ≡ note_line text at
  unfolding note_line
  line_good h = rw (← s.begins, ← s.reads_note, ← s.reads_size, ← s.reads_start, ← s.reads_end, ← s.reads_digest, ← s.closes) (sym (simp h))

pub header_is : (text : List ℕ) (at edition : ℕ) (s : HeaderSteps text at edition) → s.count ≡ header_line text at edition
unfolding header_line
header_is text at edition s = rw (s.reads_count, s.reads_second, s.reads_figure, s.reads_first, s.reads_rank, s.begins)

-- the same as the code has it: a note line's first fault is the line's, and where there is none all is read
module _ (text : List ℕ) (at : ℕ) where
  pub no_note : (f : Fault) → field_fault (fault_of f) ≡ field_at text at tab → line_fault (fault_of f) ≡ note_line text at
  unfolding note_line field_after digest_after mark_after
  no_note f e = rw (← e) (sym (simp (wants f.wanted)))

  module _ (note : Read ℕ) (e₁ : good_field note.value note.next ≡ field_at text at tab) where
    pub no_length : (f : Fault) → field_fault (fault_of f) ≡ field_at text note.next tab → line_fault (fault_of f) ≡ note_line text at
    unfolding note_line field_after digest_after mark_after
    no_length f e = rw (← e₁, ← e) (sym (simp (wants f.wanted)))

    module _ (size : Read ℕ) (e₂ : good_field size.value size.next ≡ field_at text note.next tab) where
      pub no_start : (f : Fault) → field_fault (fault_of f) ≡ field_at text size.next tab → line_fault (fault_of f) ≡ note_line text at
      unfolding note_line field_after digest_after mark_after
      no_start f e = rw (← e₁, ← e₂, ← e) (sym (simp (wants f.wanted)))

      module _ (start : Read ℕ) (e₃ : good_field start.value start.next ≡ field_at text size.next tab) where
        pub no_end : (f : Fault) → field_fault (fault_of f) ≡ field_at text start.next tab → line_fault (fault_of f) ≡ note_line text at
        unfolding note_line field_after digest_after mark_after
        no_end f e = rw (← e₁, ← e₂, ← e₃, ← e) (sym (simp (wants f.wanted)))

        module _ (end : Read ℕ) (e₄ : good_field end.value end.next ≡ field_at text start.next tab) where
          pub no_digest : (f : Fault) → digest_fault (fault_of f) ≡ digest_at text end.next → line_fault (fault_of f) ≡ note_line text at
          unfolding note_line field_after digest_after mark_after
          no_digest f e = rw (← e₁, ← e₂, ← e₃, ← e₄, ← e) (sym (simp (wants f.wanted)))

          module _ (digest : Read (List ℕ)) (e₅ : good_digest digest.value digest.next ≡ digest_at text end.next) where
            pub no_close : (f : Fault) → fault_of f ≡ mark_at text digest.next lf separator → line_fault (fault_of f) ≡ note_line text at
            unfolding note_line field_after digest_after mark_after
            no_close f e = rw (← e₁, ← e₂, ← e₃, ← e₄, ← e₅, ← e) (sym (simp (wants f.wanted)))

            pub whole_line : (next : ℕ) → good_stop next ≡ mark_at text digest.next lf separator
                → good_line
                (record {
                  note = note.value;
                  sample = record { length = size.value; loop_start = start.value; loop_end = end.value; digest = digest.value };
                }) next ≡ note_line text at
            unfolding note_line field_after digest_after mark_after
            whole_line next e = rw (← e₁, ← e₂, ← e₃, ← e₄, ← e₅, ← e)

pub ruleset line_steps = (no_note, no_length, no_start, no_end, no_digest, no_close)

-- and a header's
module _ (text : List ℕ) (at edition : ℕ) where
  pub no_rank : (f : Fault) → fault_of f ≡ word_at text at (0x52 ∷ 0x41 ∷ 0x4e ∷ 0x4b ∷ []) word → field_fault (fault_of f) ≡ header_line text at edition
  unfolding header_line word_after field_after mark_after
  no_rank f e = rw (← e) (sym (simp (wants f.wanted)))

  module _ (rank : ℕ) (e₁ : good_stop rank ≡ word_at text at (0x52 ∷ 0x41 ∷ 0x4e ∷ 0x4b ∷ []) word) where
    pub no_first : (f : Fault) → fault_of f ≡ mark_at text rank tab separator → field_fault (fault_of f) ≡ header_line text at edition
    unfolding header_line word_after field_after mark_after
    no_first f e = rw (← e₁, ← e) (sym (simp (wants f.wanted)))

    module _ (first : ℕ) (e₂ : good_stop first ≡ mark_at text rank tab separator) where
      pub no_figure : (f : Fault) → fault_of f ≡ mark_at text first edition word → field_fault (fault_of f) ≡ header_line text at edition
      unfolding header_line word_after field_after mark_after
      no_figure f e = rw (← e₁, ← e₂, ← e) (sym (simp (wants f.wanted)))

      module _ (figure : ℕ) (e₃ : good_stop figure ≡ mark_at text first edition word) where
        pub no_second : (f : Fault) → fault_of f ≡ mark_at text figure tab separator → field_fault (fault_of f) ≡ header_line text at edition
        unfolding header_line word_after field_after mark_after
        no_second f e = rw (← e₁, ← e₂, ← e₃, ← e) (sym (simp (wants f.wanted)))

        pub whole_header : (second : ℕ) → good_stop second ≡ mark_at text figure tab separator → field_at text second lf ≡ header_line text at edition
        unfolding header_line word_after field_after mark_after
        whole_header second e = rw (← e₁, ← e₂, ← e₃, ← e)

pub ruleset header_steps = (no_rank, no_first, no_figure, no_second, whole_header)
