-- The words of a walk, from the places where the logic has them, so that a walk names one file for them.
-- The logic's terms
pub use seplogic.Ra.Ura.{Ura}
pub use base.Fraction.{full_share}
pub use mir.Syntax.{named, erased, w8, w32, w64, ty_int}
pub use mir.Val.{Val, vunit, vbool, vint, vptr}
pub use base.Logic.{SProp, ent, sep, emp, id⊢}
pub use base.Fml.{GName, Lft, Share, Fml, fat}
pub use prog.Memory.{Memory}
pub use prog.Routine.{Routine}
pub use prog.Wp.{Heap, Calls, Loops, Tables, WpFn}
pub use ghost.Atoms.{Atoms}
pub use types.Logic.{Logic}
pub use sound.WpLaws.{FmC, fm_of}
pub use contract.Lifetimes.{Lfts, Shares}
pub use contract.Monad.{Fun, fact_i}
pub use contract.Running.{tables}
-- The calculus, and the statements of MIR in it
pub use types.Kit.{Item, ‵, raw, ◌⊛◌, ◌$◌, ◌∵◌, !, qed, given, learn, by, move, keep, drop, use1, use2, split, join, fsplit, fjoin, rewrite, feq_i, at_ret}
pub use types.Run.{look, store, init, forget, stop, hop, fld, from, load, lit, unit_lit, of_opd, and_then, no_more, addr, bin, assigns, assigns_last, land, first, blocks, exec, returns, enter, alloc1, alloc0, params1, pass1, pass0, free0}
pub use types.Part.{whole, sub, look_in, store_in, agg}
-- Types, and what is had of a parameter at exit
pub use denote.RattleType.{RattleType}
pub use denote.Memory.{part_at}
pub use denote.Laws.{Is}
pub use denote.Plain.{uint_Makes, uint_vals, uint_Tells}
pub use denote.Builtin.{u8, u32, u64, usize}
pub use denote.Ref.{Bor, MutBor, NamedLft, ShrRef, at_last, shr_vals, mut_vals, mut_Tells, shr_Tells, shr_copy}
pub use denote.Signature.{plain, named_lft}
pub use denote.Slice.{slice_val, MutSlice, ShrSlice, shr_slice_vals, mut_slice_vals, mut_slice_Tells, mut_slice_Lawful, shr_slice_Tells, shr_slice_Lawful, shr_slice_copy}
pub use denote.Steps.{owned, nothing}
pub use denote.Triple.Statement.{Contract, Triple}
pub use denote.Triple.Entry.{on_entry}
pub use denote.Triple.Spec.{triple_of}
pub use denote.Triple.Table.{cited}
pub use denote.Triple.Walked.{Stays, stay_ref, stay_slice, stay_none, stay_none_ref, stay_none_slice, walk_of, Goes-ref, Goes-slice, Goes-none, Goes-none_ref, Goes-none_slice}
pub use denote.Exit.{yes}
