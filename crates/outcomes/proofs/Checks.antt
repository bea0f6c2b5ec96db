-- The checks on lengths, counts and sheets, and the numbers of refusals: one answer each, because each promise is an equation with it.
use Rattle.lists.proofs.Kit.{◌≡◌, refl, sym, ap, ◌∙◌, ℕ, ◌<◌, arith}
use Rattle.std.specs.Prelude.{Option, None, Some}
use Rattle.std.specs.Option.{MatchOption}
use Rattle.refusals.proofs as refusals
use Rattle.refusals.proofs.Numbers.{one_bare}
use Rattle.checks.proofs as checks
use Rattle.outcomes.specs.Once.{Once}

pub bad_length_once : Once checks.bad_length.Kinds.ps checks.bad_length.Kinds.r checks.bad_length.Reads.Post
bad_length_once t = (t.first ∙ sym t.second, refl)

pub words_of_once : Once checks.words_of.Kinds.ps checks.words_of.Kinds.r checks.words_of.Reads.Post
words_of_once t = (t.first ∙ sym t.second, refl)

pub longest_of_once : Once checks.longest_of.Kinds.ps checks.longest_of.Kinds.r checks.longest_of.Reads.Post
longest_of_once t = (t.first ∙ sym t.second, refl)

pub need_of_once : Once checks.need_of.Kinds.ps checks.need_of.Kinds.r checks.need_of.Reads.Post
need_of_once t = (t.first ∙ sym t.second, refl)

-- a place that is the first of its kind among n, or none where there is no such place, is one
one_place : (n first : ℕ) (x y : Option ℕ) → MatchOption x (first ≡ n) (λ p. (p < n) × (p ≡ first)) → MatchOption y (first ≡ n) (λ p. (p < n) × (p ≡ first)) → x ≡ y
one_place n first None None p q = refl
one_place n first None (Some b) p q = absurd (omega arith)
one_place n first (Some a) None p q = absurd (omega arith)
one_place n first (Some a) (Some b) p q = ap Some (p.1 ∙ sym q.1)

pub first_above_once : Once checks.first_above.Kinds.ps checks.first_above.Kinds.r checks.first_above.Reads.Post
first_above_once t = (one_place _ _ t.x t.y t.first t.second, refl)

pub check_size_once : Once checks.check_size.Kinds.ps checks.check_size.Kinds.r checks.check_size.Reads.Post
check_size_once t = (one_bare t.x t.y (t.first ∙ sym t.second), refl)

pub check_block_once : Once checks.check_block.Kinds.ps checks.check_block.Kinds.r checks.check_block.Reads.Post
check_block_once t = (one_bare t.x t.y (t.first ∙ sym t.second), refl)

pub check_passes_once : Once checks.check_passes.Kinds.ps checks.check_passes.Kinds.r checks.check_passes.Reads.Post
check_passes_once t = (one_bare t.x t.y (t.first ∙ sym t.second), refl)

pub check_named_once : Once checks.check_named.Kinds.ps checks.check_named.Kinds.r checks.check_named.Reads.Post
check_named_once t = (one_bare t.x t.y (t.first ∙ sym t.second), refl)

pub check_swap_once : Once checks.swaps.check_swap.Kinds.ps checks.swaps.check_swap.Kinds.r checks.swaps.check_swap.Reads.Post
check_swap_once t = (one_bare t.x t.y (t.first ∙ sym t.second), refl)

pub check_sheet_once : Once checks.check_sheet.Kinds.ps checks.check_sheet.Kinds.r checks.check_sheet.Reads.Post
check_sheet_once t = (one_bare t.x t.y (t.first ∙ sym t.second), refl)

pub number_once : Once refusals.Refusal.number.Kinds.ps refusals.Refusal.number.Kinds.r refusals.Refusal.number.Reads.Post
number_once t = (t.first ∙ sym t.second, refl)
