-- What the proofs of every crate use of the kit's libraries and of this crate, passed on by one module, so that a proof file names it once.
unfoldable pub use mathlib.Core.Path.{◌≡◌, ◌∙◌, sym, refl, ap, subst, ap₂}
pub use mathlib.Core.Path.{subst₂}
unfoldable pub use mathlib.Core.Bool.{cond, ◌||◌, not, ◌&&◌}
pub use mathlib.Core.Bool.{false, true, Bool, true≢false}
unfoldable pub use mathlib.Core.Logic.{⊎_elim, ◌↔◌}
pub use mathlib.Core.Logic.Iff.{rfl as Iff-rfl}
pub use mathlib.Core.Logic.{inl, inr, ◌⊎◌}
unfoldable pub use mathlib.Core.List.{◌++◌, map, reverse}
pub use mathlib.Core.List.Memᴰ.{append_cases as Memᴰ-append_cases}
pub use mathlib.Core.List.Memᴰ.{append_left as Memᴰ-append_left}
pub use mathlib.Core.List.Memᴰ.{append_right as Memᴰ-append_right}
pub use mathlib.Core.List.Memᴰ.{cases_cons as Memᴰ-cases_cons}
pub use mathlib.Core.List.Memᴰ.{eq_of_singleton as Memᴰ-eq_of_singleton}
pub use mathlib.Core.List.Memᴰ.{map as Memᴰ-map}
pub use mathlib.Core.List.Memᴰ.{not-nil as Memᴰ-not_nil}
pub use mathlib.Core.List.Memᴰ.{of_map as Memᴰ-of_map}
pub use mathlib.Core.List.{List, [], ◌∷◌, append_assoc, append-nil, reverse-cons, reverse-reverse, Memᴰ}
pub use Prim.Native.Nat.{ℕ, ◌≤◌, ◌<◌, ◌+◌, ◌-◌, ◌*◌, suc, ◌%◌, ◌/◌, zero, ◌^◌, zero-le, max, min, suc-le-suc, ◌∣◌}
pub use native.Mathlib.Omega.{arith}
pub use native.Mathlib.Nat.{mod-lt, div-add-mod', not-suc-le-zero, mul-le-mul_right, mul_comm, add-mul, mul-le-mul, one-mul, div-lt_iff_lt-mul, le_of_suc-le-suc, mul_assoc, zero-mul, le-mul_of_pos_right, mul-add, mul-one, mul-zero, mul-pos, mul-le-mul_left, mod-eq_of_lt, add-zero, eq-zero-or-pos, div-le_self, mod-add-mod, le_trans, div-eq_of_lt, le_refl, zero-add, le_antisymm, add-mod_right, sub-zero, add_assoc, pos_of_ne-zero, pow-suc, pow-zero, mul-add-mod_self_right, zero-mod, add_comm, dvd-mul_right, eq_of_mul-eq-mul_left, div-eq_of_lt-le, add-mul-mod_self_right, mul_right_comm, max-eq_left, suc-sub-suc, mod-mod_of_dvd, zero-div, add-suc, dvd-mul_left, dvd_of_mul-dvd-mul_right, dvd_antisymm, eq-one_of_dvd-one, suc-add, max-zero, mul_left_comm, mod_self, eq-or-lt_of_le, add-mod-mod, div-div-eq-div-mul, div-mul_cancel, sub-add_cancel, pos_of_dvd_of_pos, one-le-mul, le_of_eq, mul-sub, mod-eq-zero_of_dvd, dvd_refl, dvd-zero, dvd-mod_iff, dvd-sub, dvd-mul_left_of_dvd, add-sub_cancel_left, mul-dvd-mul_right, mul-suc, div-add-mod, mul-div_cancel', dvd_of_mod-eq-zero, mod-one, zero-max, max_comm, lt-suc_self, zero-sub, max-le, max-eq_right, min-eq_left, min-eq_right, mul-div_cancel, mul-mod_left, mod-eq-sub-mod, lt_of_mul-lt-mul_left, lt_of_mul-lt-mul_right}
pub use native.Mathlib.Numerals.{add-one, unary_clauses}
unfoldable pub use lib.ListN.{length, get_or, drop, take, set, replicate}
pub use lib.ListN.{length-append, length-set, length-drop, take-append-drop, get_or-eq_default, drop_of_length-le, length-replicate, length-take, get_or-append, length-map, length-reverse, get_or-replicate}
unfoldable pub use lib.Seq.{sets}
pub use lib.Seq.{length-take-le, ext_get_or, take_at, get_or-set_same, get_or-set_other, take_all, get_or-drop, drop_at, drop-drop, take-suc, get_or-append-add, get_or-take, append_snoc, length-sets, take-append-add, drop-append-add, set_at, sets-eq, take-add, take-append-le, take-length, take-take, drop-cons, get_or_at, drop-nil, set_comm, drop-length, take-nil, get_or-append_seam, drop-set-lt, take-append_seam, drop-append_seam}
unfoldable pub use lib.Dec.{eqb, ltb, T, leb}
pub use lib.Dec.{lit<, ltb→lt, eqb-suc-suc, T_not, eqb→eq, leb-suc-suc, nltb→le, eqb_refl}
pub use lib.Arith.{digits_div, digits_mod, digits_lt, lt-one, mod-mul}
pub use borrow.Author.Tests.{le-ltb, lt-ltb, ne_eqb, ltb-false, eq-eqb, eqb-true, eqb-false, ltb-true, not-false, not-true, le-leb, leb-true, leb-false, lt-leb}
pub use borrow.Author.Rules.{rules}
pub use Rattle.lists.proofs.Decide.{lt-or-ge, eq-or-ne, decided}
pub use Rattle.lists.proofs.Via.{via}
pub use Rattle.lists.proofs.Tab.{length-tab, get_or-tab, map-tab, tab_more, tab-get_or, overlaid_rest, overlaid_length, overlaid_front, tab_ext, tab_zero}
pub use Rattle.lists.proofs.Front.{drop_end, drop-next, drop_next_or}
pub use Rattle.lists.proofs.Test.{same→eq, eq→same, both_left, both_right, at_entry, at_number, below}
pub use Rattle.lists.proofs.Copied.{copied_more}
unfoldable pub use Rattle.lists.specs.Tab.{upto, tab}
unfoldable pub use Rattle.lists.specs.Same.{same}
