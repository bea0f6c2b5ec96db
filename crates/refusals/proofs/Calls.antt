-- Five lists of checks whose laws callers use: 0 exactly when none of the conditions holds. And the checks of a block before the room in scratch: where the
-- block is refused, and where scratch decides.
use Rattle.lists.proofs.Kit.{List, [], ◌∷◌, ◌↔◌, ◌≡◌, sym, ◌∙◌, ℕ, ◌<◌, ◌≤◌, length, lt-ltb, le-ltb}
use Rattle.refusals.specs.FirstOf.{Check, check, first_of, Silent}
use Rattle.refusals.specs.Conditions.{short_scratch}
use Rattle.refusals.specs.Calls.{block_checks, passes_checks, recursion_checks, chain_checks, request_checks, plan_checks, named_checks}
use Rattle.refusals.specs.Scratch.{need}
use Rattle.refusals.proofs.FirstOf.{accepted_exactly, refused_by, passed_first, accepted_so_far}

pub recursion_accepted : (ds b : List ℕ) → (first_of (recursion_checks ds b) ≡ 0) ↔ Silent (recursion_checks ds b)
recursion_accepted ds b = accepted_exactly (recursion_checks ds b) tt

pub chain_accepted : (r : ℕ) (ds b s chain : List ℕ) → (first_of (chain_checks r ds b s chain) ≡ 0) ↔ Silent (chain_checks r ds b s chain)
chain_accepted r ds b s chain = accepted_exactly (chain_checks r ds b s chain) tt

pub request_accepted : (r : ℕ) (ds b s : List ℕ) (release order : ℕ)
    → (first_of (request_checks r ds b s release order) ≡ 0) ↔ Silent (request_checks r ds b s release order)
request_accepted r ds b s release order = accepted_exactly (request_checks r ds b s release order) tt

pub plan_accepted : (r order : ℕ) → (first_of (plan_checks r order) ≡ 0) ↔ Silent (plan_checks r order)
plan_accepted r order = accepted_exactly (plan_checks r order) tt

pub named-accepted : (r release order : ℕ) → (first_of (named_checks r release order) ≡ 0) ↔ Silent (named_checks r release order)
named-accepted r release order = accepted_exactly (named_checks r release order) tt

-- the checks of a block, then the room in scratch
module _ (ds buffer scratch : List ℕ) where
  abbrev room_check : List Check
  room_check = check 4 (short_scratch (need ds) scratch) ∷ []

  pub block_refused : {r : ℕ} → r ≡ first_of (block_checks ds buffer) → (r ≡ 0 → ⊥) → r ≡ first_of (passes_checks ds buffer scratch)
  block_refused e n = refused_by (block_checks ds buffer) room_check e n

  pub short_refused : first_of (block_checks ds buffer) ≡ 0 → length scratch < need ds → 4 ≡ first_of (passes_checks ds buffer scratch)
  short_refused e h = sym (accepted_so_far room_check ((recursion_accepted ds buffer).0 e) ∙ rw (lt-ltb _ _ h))

  pub block_good : first_of (passes_checks ds buffer scratch) ≡ 0 → first_of (block_checks ds buffer) ≡ 0
  block_good e = passed_first (block_checks ds buffer) room_check e

  pub room_passed : first_of (block_checks ds buffer) ≡ 0 → need ds ≤ length scratch → 0 ≡ first_of (passes_checks ds buffer scratch)
  room_passed e h = sym (accepted_so_far room_check ((recursion_accepted ds buffer).0 e) ∙ rw (le-ltb _ _ h))
