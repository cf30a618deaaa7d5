-- The names that the walks share.
pub use Rattle.edge_store.proofs.Memory.Chained.{IsChained-had, IsChained-join, IsChained-last, IsChained-tail, head_is, link_at, next_is, place_of-is}
pub use Rattle.edge_store.proofs.Memory.Paired.{first_of, last_of, only_of}
pub use Rattle.edge_store.proofs.Memory.Seen.{node_seen, nodes_seen, pointer_in, pointer_out}
pub use Rattle.edge_store.proofs.Memory.Steps.{Frees, apart, node_closes, node_opens, nodes_closes, nodes_good, nodes_had, nodes_made, nodes_opens, nodes_val, place_good, place_made, place_val, together}
pub use Rattle.edge_store.specs.inside.Links.{IsChained, Link, place_of}
pub use Rattle.edge_store.specs.inside.Ownership.{node_at, node_owns, nodes_own}
pub use Rattle.std.proofs.RcSteps.{Good, Ptr-Good}
pub use Rattle.std.proofs.VecSteps.Shapes.{after}
pub use Rattle.std.proofs.alloc.Calls.{Goes-blank, handle_tells}
pub use Rattle.std.proofs.raw_atomic.Walks.{leaves, proved, proved_at}
pub use Rattle.std.specs.Box.Ownership.{box_owns}
pub use base.Fml.{ftrue, flft, fsep}
pub use base.Fraction.{full_share}
pub use base.Logic.{SProp, emp, ent, fst∗, id⊢, never}
pub use contract.BorrowLft.{◌⊑◌}
pub use contract.Monad.{fact, fact_i}
pub use contract.Running.{tables}
pub use denote.Builtin.{RefOf, u32}
pub use denote.Exit.{no, yes}
pub use denote.Memory.{cell_at, shared_of}
pub use denote.Param.{bounded, layout, layouts, param}
pub use denote.Param.Laws.{param_laws}
pub use denote.Plain.{uint_Tells, uint_vals}
pub use denote.RattleType.{RattleType, owns}
pub use denote.RawPtr.{Ptr, RawPtr, block_ptr, in_a_block, null_ptr, ptr_val}
pub use denote.Ref.{mut_Tells, mut_vals, shr_Tells, shr_vals}
pub use denote.Signature.{plain, types_at}
pub use denote.Opens.{hide}
pub use denote.Struct.Lending.{lent_at}
pub use denote.Steps.{heard, nothing, only}
pub use denote.Struct.Tuple.{Tuple}
pub use denote.Triple.Call.{calls_at, calls_at_last}
pub use denote.Triple.Clauses.{Lasts, lasts}
pub use denote.Triple.Spec.{triple_of}
pub use denote.Triple.Table.{framed}
pub use denote.Triple.Walked.{Goes-dropped, Goes-ref, Stays, stay_dropped, stay_ref, walk_of}
pub use lib.ListN.{get_or, length, take}
pub use mathlib.Core.List.{List, [], ◌++◌, ◌∷◌}
pub use mathlib.Core.Logic.{◌≢◌}
pub use mathlib.Core.Path.{ap, refl, subst, sym, ◌∙◌, ◌≡◌}
pub use mir.MapTy.{inst_fn}
pub use mir.Raw.{raw as bare}
pub use mir.Syntax.{a_type, dcons, dnil, named, w32}
pub use mir.Val.{Val, of_list, vint, vptr, vstruct, vunit}
pub use native.Mathlib.Omega.{arith}
pub use Prim.Native.Nat.{ℕ, suc, ◌+◌, ◌<◌, ◌^◌}
pub use prog.Wp.{WpFn}
pub use types.ByLocal.{alloc_all, env, free_all, get, get_in, is, lands_as, lands_last, look_at, look_in_at, pass_all, sets, sets_last, through}
pub use types.Kit.{ !, at_ret, await, by, drop, feq_i, feq_l, fjoin, fjoin3, fpick, fsplit, fsplit3, join, keep, later, move, pick, qed, raw, rewrite, some, split, split3, suffices, use0, use1, use2, ‵, ◌$◌, ◌∵◌, ◌⊛◌}
pub use types.Logic.{sem}
pub use types.Part.{agg, look_in, store_in, sub, whole}
pub use types.Run.{addr, and_then, assigns, assigns_last, blocks, enter, exec, first, fld, from, hop, load, look, no_more, of_opd, returns, stop, unit_lit}
