-- The crate's promises, proved. Assumes nothing.
use Prim.Native.Nat.{ℕ, ◌+◌, ◌*◌, ◌-◌, ◌/◌, ◌<◌, ◌≤◌}
use mathlib.Core.Path.{◌≡◌, refl, sym, ◌∙◌}
use mathlib.Core.Bool.{true, false}
use mathlib.Core.List.{List}
use borrow.Author.Tests.{eqb-false}
use native.Mathlib.Omega.{arith}
use lib.ListN.{length, take, drop, length-append}
use lib.Seq.{take_at}
use Rattle.refusal.specs.Table.{accepted, too_long, wrong_size, other_tail, no_such_block}
use Rattle.buffers.specs.Same.{same}
use Rattle.buffers.proofs.Comparing.{same_equal, equal_same, differ_same, same_differ}
use Rattle.word.specs.BigEndian.{AreBytes}
use Rattle.units.specs.Units.{longest}
use Rattle.padding.specs.Padding.{block_count}
use Rattle.padding.specs.Writing.{tail_of, tail_size, tail_answer, written, buffer_after}
use Rattle.padding.proofs.Tails.{accepted_when, fills_blocks}
use Rattle.padding.proofs.Wholes.{tail_length, tail_written}
use Rattle.padded.specs.Viewing.{view_number}
use Rattle.padded.specs.Removing.{stated_bits, is_padded, remove_number, remove_part}
use Rattle.padded.specs.Promises.{Promises, Tailed, PaddedForm}
use Rattle.padded.proofs.Viewed.{view_long, view_short, view_other, view_past, view_accepts, view_cases, viewed, not_long, not_short, not_other, not_past, not_there}
use Rattle.padded.proofs.Placed.{in_neither_lem, inside, outside, no_part as no_block, address_inside, address_outside, place_told}
use Rattle.padded.proofs.Joined.{block_is, all_blocks}
use Rattle.padded.proofs.Removed.{accepts, refuses, part_of, no_part, answered, length_within}
use Rattle.padded.proofs.Forms.{form_padded, form_message, message_short, message_form}

module _ (s b : List ℕ) (i : ℕ) where
  is_long : view_number s b i ≡ too_long → longest < length s
  is_long e = view_cases s b i (λ l. l) (not_short s b i e refl) (not_other s b i e refl) (not_past s b i e refl) (not_there s b i e refl)

  is_short : view_number s b i ≡ wrong_size → (length s ≤ longest) × (length b < tail_size (length s))
  is_short e = view_cases s b i (not_long s b i e refl) (λ w r. (w, r)) (not_other s b i e refl) (not_past s b i e refl) (not_there s b i e refl)

  is_other : view_number s b i ≡ other_tail → (length s ≤ longest) × (tail_size (length s) ≤ length b) × (take (tail_size (length s)) b ≡ tail_of s → ⊥)
  is_other e =
      view_cases s b i (not_long s b i e refl) (not_short s b i e refl) (λ w r o. (w, r, same_differ _ _ o)) (not_past s b i e refl) (not_there s b i e refl)

  tailed : length s ≤ longest → tail_size (length s) ≤ length b → same (take (tail_size (length s)) b) (tail_of s) ≡ true → Tailed s b
  tailed w r t = record { short = w; roomy = r; tail = same_equal _ _ t }

  is_past : view_number s b i ≡ no_such_block → Tailed s b × (block_count (length s) ≤ i)
  is_past e =
      view_cases s b i (not_long s b i e refl) (not_short s b i e refl) (not_other s b i e refl) (λ w r t p. (tailed w r t, p)) (not_there s b i e refl)

  is_there : view_number s b i ≡ accepted → Tailed s b × (i < block_count (length s))
  is_there e = let is = viewed s b i e in (tailed is.within is.roomy is.tail, is.below)

  -- the tail buffer has the block
  in_what_was_lent : view_number s b i ≡ accepted → length s < 64 * (i + 1) → 64 * (i - length s / 64) + 64 ≤ length b
  in_what_was_lent e h =
      let is = viewed s b i e in
      omega (arith, is.below, is.roomy, fills_blocks (length s))

-- the remover's two answers
module _ (b : List ℕ) where
  accepted_padded : remove_number b ≡ accepted → is_padded b ≡ true
  accepted_padded e = answered b (λ h. h) (λ h. absurd (eqb-false 0 14 refl (sym e ∙ sym (refuses b h))))

  refused_not : (remove_number b ≡ accepted → ⊥) → is_padded b ≡ false
  refused_not f = answered b (λ h. absurd (f (sym (accepts b h)))) (λ h. h)

  has_form : AreBytes b → is_padded b ≡ true → PaddedForm b
  has_form all h = record { message = take (stated_bits b / 8) b; short = message_short b all h; form = message_form b all h }

  form_is_padded : PaddedForm b → is_padded b ≡ true
  form_is_padded f = rw (← f.form) (form_padded f.message f.short)

  form_removed : (f : PaddedForm b) → remove_part b ≡ f.message
  form_removed f = sym (part_of b (form_is_padded f)) ∙ rw (← f.form) (form_message f.message f.short)

-- what the writer wrote is the tail, and there is room for it
writer_tail : (s b : List ℕ) → (written s b).number ≡ accepted → Tailed s (buffer_after s b)
unfolding written
writer_tail s b ok =
    let known = accepted_when (length s) (length b) (tail_answer (length s) (length b)) refl ok in
    let size = tail_length s in
    let after = tail_written s b ok in
    record {
      short = known.within;
      roomy = rw after (omega (arith, length-append (tail_of s) (drop (tail_size (length s)) b)));
      tail = rw after (take_at (tail_of s) (drop (tail_size (length s)) b) (tail_size (length s)) size);
    }

pub proved : Promises
unfolding remove_part
proved =
    record {
      view = block_is;
      written_tail = writer_tail;
      views_joined = all_blocks;
      view_accepted = λ s b i. (is_there s b i, λ h. view_accepts s b i h.0.short h.0.roomy (equal_same _ _ h.0.tail) h.1);
      view_ten = λ s b i. (is_long s b i, view_long s b i);
      view_eleven = λ s b i. (is_short s b i, λ h. view_short s b i h.0 h.1);
      view_thirteen = λ s b i. (is_other s b i, λ h. view_other s b i h.0 h.1 (differ_same _ _ h.2));
      view_twelve = λ s b i. (is_past s b i, λ h. view_past s b i h.0.short h.0.roomy (equal_same _ _ h.0.tail) h.1);
      view_refused = no_block;
      view_inside = inside;
      view_outside = λ s b i e h. (outside s b i e h, in_what_was_lent s b i e h);
      view_nowhere = λ s b i h. sym (in_neither_lem s b i h);
      place_none = refl;
      place_some = λ from. (refl, refl);
      place_told = place_told;
      address_inside = address_inside;
      address_outside = address_outside;
      remover = λ b all. (λ e. has_form b all (accepted_padded b e), λ f. sym (accepts b (form_is_padded b f)));
      remover_fourteen =
          λ b all. (
            λ e f. eqb-false 14 0 refl (sym e ∙ sym (accepts b (form_is_padded b f))),
            λ n. sym (refuses b (refused_not b (λ e. n (has_form b all (accepted_padded b e))))),
          );
      removed = form_removed;
      remove_first = λ b. refl;
      remove_within = length_within;
      remover_refused = λ b h. sym (no_part b (refused_not b h));
    }
