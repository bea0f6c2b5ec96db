-- What makes a call's promise: a refusal that leaves all as it was, and for a request the chain of its plan, which names the order asked for,
-- is refused for nothing but the block and the room in scratch, and needs what the request needs; and a request in one release from one in another.
use Rattle.lists.proofs.Kit.{◌≡◌, refl, sym, ap, ap₂, ◌∙◌, subst, Bool, false, cond, List, [], ◌∷◌, ◌++◌, ℕ, ◌-◌, ◌<◌, ◌≤◌, arith, ltb, length, take, replicate, length-append, take_at, le-ltb, ne_eqb}
use Rattle.layout.specs.Layout.{pick, Laid, Below}
use Rattle.orders.specs.Chains.{named}
use Rattle.orders.specs.Numbers.{order_count, order_of, number_of}
use Rattle.orders.specs.Releases.{order_by, number_by}
use Rattle.orders.specs.Plans.{plan_of, plan_places}
use Rattle.orders.specs.Needs.{chain_need, plan_need}
use Rattle.orders.proofs.Numbers.{number_order}
use Rattle.orders.proofs.Releases.{by_below, by_order}
use Rattle.orders.proofs.Plans.{plan_of_number, plan_of_number_below, plan_places_lem}
use Rattle.refusals.specs.FirstOf.{Check, check, first_of, Silent}
use Rattle.refusals.specs.Conditions.{short_scratch, bad_swap, long_chain, no_release}
use Rattle.refusals.specs.Calls.{block_checks, chain_checks, request_checks, named_checks}
use Rattle.refusals.specs.Scratch.{cleared}
use Rattle.refusals.proofs.FirstOf.{silent_zero, same_after, accepted_so_far}
use Rattle.refusals.proofs.Conditions.{is_order, no_order_false}
use Rattle.refusals.proofs.Calls as calls
use Rattle.refusals.proofs.Promise as promise
use Rattle.axes.specs.declared.Answer.{Answer}
use Rattle.plans.specs.declared.Planned.{Planned}
use Rattle.plans.specs.Promise.{PlanPromise}
use Rattle.plans.proofs.Given.{is_one, the_plan}
use Rattle.axes.specs.Answers.{accepted, refused, refused_place, asked_for}
use Rattle.axes.specs.Promises.{ChainPromise, RequestPromise}
use Rattle.axes.proofs.Accepted.{never_six}

-- a call that is refused and leaves the lent words as they were
module _ (r : ℕ) {a : Answer} {number place : ℕ} (e : a ≡ refused number place) (n : number ≡ 0 → ⊥) where
  number_is : a.number ≡ number
  number_is = ap (λ (b : Answer). b.number) e

  never : a.number ≡ 0 → ⊥
  never z = n (sym number_is ∙ z)

  pub chain_refused : {ds chain xs ss : List ℕ} → number ≡ first_of (chain_checks r ds xs ss chain) → place ≡ refused_place r number chain
      → ChainPromise r ds chain xs ss a xs ss
  chain_refused {chain = chain} f p = record {
    block = promise.refused (number_is ∙ f) never;
    given = λ z. absurd (never z);
    refusal = λ _. e ∙ ap₂ refused (sym number_is) (p ∙ ap (λ (k : ℕ). refused_place r k chain) (sym number_is));
  }

  pub request_refused : {ds : List ℕ} {release order : ℕ} {xs ss : List ℕ} → number ≡ first_of (request_checks r ds xs ss release order) → place ≡ 0
      → RequestPromise r ds release order xs ss a xs ss
  request_refused f p = record {
    block = promise.refused (number_is ∙ f) never;
    given = λ z. absurd (never z);
    refusal = λ _. e ∙ ap₂ refused (sym number_is) p;
  }

below_good : (r : ℕ) {c : List ℕ} → Below (r - 1) c → bad_swap r c ≡ false
below_good r Below.empty = refl
below_good r (Below.next {a} {o} h b) = rw (le-ltb (r - 2) a (omega arith)) (below_good r b)

-- a plan that was given, on so few axes that no plan is longer than a chain may be
module _ {r order : ℕ} {q : Planned} (few : plan_places r ≤ 32) (p : PlanPromise r order q) (z : q.number ≡ 0) where
  o : List ℕ
  o = order_of r order

  low : order < order_count r
  low = is_one p z

  plan_length : q.count ≡ length (plan_of (order_of r order))
  plan_length = ap (λ (t : Planned). t.count) (the_plan p z)

  -- its first swaps are the plan
  pub plan_swaps : take q.count q.swaps ≡ plan_of (order_of r order)
  unfolding o
  plan_swaps =
      ap₂ take plan_length (ap (λ (t : Planned). t.swaps) (the_plan p z))
      ∙ take_at (plan_of o) (replicate (10 - length (plan_of o)) 0) (length (plan_of o)) refl

  pub plan_holds : q.count ≤ length q.swaps
  unfolding o
  plan_holds =
      omega
      (arith, plan_length, ap (λ (t : Planned). length t.swaps) (the_plan p z), length-append (plan_of o) (replicate (10 - length (plan_of o)) 0))

  pub plan_count : q.count ≡ length (take q.count q.swaps)
  plan_count = plan_length ∙ ap length (sym plan_swaps)

  plan_short : long_chain (plan_of (order_of r order)) ≡ false
  plan_short = le-ltb 32 (length (plan_of (order_of r order))) (omega (arith, few, plan_places_lem r order low))

  plan_good : bad_swap r (plan_of (order_of r order)) ≡ false
  plan_good = below_good r (plan_of_number_below r order low)

  -- the checks of its chain and of the request come to the same: those of the block, then the room that it needs
  module _ (ds xs ss : List ℕ) where
    abbrev room : List Check
    room = check 4 (short_scratch (plan_need r ds 1 order) ss) ∷ []

    plan_checks_lem : first_of (chain_checks r ds xs ss (plan_of (order_of r order))) ≡ first_of (block_checks ds xs ++ room)
    plan_checks_lem =
        let chain = plan_of (order_of r order) in
        same_after (block_checks ds xs) (check 5 (long_chain chain) ∷ check 6 (bad_swap r chain) ∷ room) room (rw (plan_short, plan_good))

    request_checks_lem : first_of (request_checks r ds xs ss 1 order) ≡ first_of (block_checks ds xs ++ room)
    request_checks_lem =
        let silent : Silent (named_checks r 1 order) = Silent.more refl ((calls.plan_accepted r order).0 (sym p.number_is ∙ z)) in
        same_after (block_checks ds xs) (named_checks r 1 order ++ room) room (accepted_so_far room silent)

  -- the chain of the plan answers as the request for its number in release 1 does, refused or not
  pub request_of_chain : {ds xs ss ys ts : List ℕ} {a : Answer} → ChainPromise r ds (take q.count q.swaps) xs ss a ys ts
      → RequestPromise r ds 1 order xs ss a ys ts
  unfolding o
  request_of_chain {ds} {xs} {ss} {ys} {ts} {a} c' =
      let c : ChainPromise r ds (plan_of o) xs ss a ys ts = subst (λ (t : List ℕ). ChainPromise r ds t xs ss a ys ts) plan_swaps c' in
      let first = c.block.number_is ∙ plan_checks_lem ds xs ss in
      let names : named r (plan_of o) ≡ o = (plan_of_number r order low).names in
      let nowhere : refused_place r a.number (plan_of o) ≡ 0 =
      rw (ne_eqb a.number 6 (λ e. never_six ds xs (short_scratch (plan_need r ds 1 order) ss) (sym first ∙ e))) in
      record {
        block = record {
          number_is = first ∙ sym (request_checks_lem ds xs ss);
          words = λ i. subst (λ (t : List ℕ). Laid ds t xs ys) names (c.block.words i);
          zeroed = c.block.zeroed;
          kept = c.block.kept;
        };
        given = λ i.
            c.given i
            ∙ ap₂ (λ (l : List ℕ) (k : ℕ). accepted l k (length (plan_of o)))
            (ap (λ (t : List ℕ). pick t ds) names)
            (ap (number_of r) names ∙ number_order r order low);
        refusal = λ n. c.refusal n ∙ ap (refused a.number) nowhere;
      }

-- a request for the number that an order has in release 1 answers as the request for the number that names the order by its release does, but for
-- the number
module _ (r release order : ℕ) (known : no_release release ≡ false) (low : order < order_count r) where
  named_silent : Silent (named_checks r release order)
  named_silent = Silent.more known (Silent.more (no_order_false r order low) Silent.none)

  own_silent : Silent (named_checks r 1 (number_by r release order))
  own_silent = Silent.more refl (Silent.more (no_order_false r (number_by r release order) (by_below r order low release)) Silent.none)

  module _ (ds xs ss : List ℕ) where
    abbrev room_by : List ℕ → List Check
    room_by t = check 4 (short_scratch (chain_need ds (plan_of t)) ss) ∷ []

    checks_by : first_of (request_checks r ds xs ss 1 (number_by r release order)) ≡ first_of (request_checks r ds xs ss release order)
    checks_by =
        let own = order_of r (number_by r release order) in
        let asked = order_by r release order in
        same_after (block_checks ds xs) (named_checks r 1 (number_by r release order) ++ room_by own) (named_checks r release order ++ room_by asked)
        (accepted_so_far (room_by own) own_silent
        ∙ ap (λ (t : List ℕ). first_of (room_by t)) (by_order r order low release)
        ∙ sym (accepted_so_far (room_by asked) named_silent))

  pub request_by : {ds xs ss ys ts : List ℕ} {a : Answer} → RequestPromise r ds 1 (number_by r release order) xs ss a ys ts
      → RequestPromise r ds release order xs ss (asked_for order a) ys ts
  request_by {ds} {xs} {ss} {ys} {ts} {a} p =
      let same = by_order r order low release in
      record {
        block = record {
          number_is = p.block.number_is ∙ checks_by ds xs ss;
          words = λ i. subst (λ (t : List ℕ). Laid ds t xs ys) same (p.block.words i);
          zeroed = λ i. p.block.zeroed i ∙ ap (λ (t : List ℕ). cleared (chain_need ds (plan_of t)) ss) same;
          kept = p.block.kept;
        };
        given = λ i.
            ap (asked_for order) (p.given i) ∙ ap (λ (t : List ℕ). accepted (pick t ds) order (length (plan_of t))) same;
        refusal = λ n.
            ap (asked_for order) (p.refusal n)
            ∙ ap (λ (t : Bool). let b : Answer = record { number = a.number; place = 0; lengths = replicate 5 0; order = cond t order 0; swaps = 0 } in b)
            (ne_eqb a.number 0 n);
      }

-- one of the orders has a plan
plan_given : {r n : ℕ} {q : Planned} → n < order_count r → PlanPromise r n q → q.number ≡ 0
plan_given {r} {n} low p = p.number_is ∙ silent_zero (Silent.more (no_order_false r n low) Silent.none)

-- 14 and 7, told the last order of r axes
pub told_last : (r release order : ℕ) {last n : ℕ} → last ≡ order_count r - 1 → n ≡ first_of (check 14 (no_release release) ∷ check 7 (ltb last order) ∷ [])
    → n ≡ first_of (named_checks r release order)
told_last r release order e f = f ∙ ap (λ (l : ℕ). first_of (check 14 (no_release release) ∷ check 7 (ltb l order) ∷ [])) e

-- a number and its release that are not refused
module _ (r release order : ℕ) (e : first_of (named_checks r release order) ≡ 0) where
  pub named_known : (no_release release ≡ false) × (order < order_count r)
  named_known = go ((calls.named-accepted r release order).0 e)
    where
      go : Silent (named_checks r release order) → (no_release release ≡ false) × (order < order_count r)
      go (Silent.more h (Silent.more k s)) = (h, is_order r order k)

  -- the order that they name has a plan
  pub plan_known : {n : ℕ} {q : Planned} → n ≡ number_by r release order → PlanPromise r n q → q.number ≡ 0
  plan_known {n} own p = plan_given (rw own (by_below r order named_known.1 release)) p

  -- the chain of the plan of the order that they name answers as the request does, but for the number
  pub request_named : {n : ℕ} {q : Planned} → plan_places r ≤ 32 → n ≡ number_by r release order → PlanPromise r n q → q.number ≡ 0
      → {ds xs ss ys ts : List ℕ} {a b : Answer} → ChainPromise r ds (take q.count q.swaps) xs ss a ys ts → b ≡ asked_for order a → RequestPromise r ds release order xs ss b ys ts
  request_named {n} few own p z {ds} {xs} {ss} {ys} {ts} {a} c asked =
      let done : RequestPromise r ds 1 (number_by r release order) xs ss a ys ts =
      subst (λ (k : ℕ). RequestPromise r ds 1 k xs ss a ys ts) own (request_of_chain few p z c) in
      subst (λ (t : Answer). RequestPromise r ds release order xs ss t ys ts) (sym asked)
      (request_by r release order named_known.0 named_known.1 done)
