-- Each promise leaves one outcome: any two that it allows from the same entry coincide, answer and both slices. Where a call is accepted, two
-- layouts of one order are equal; where it is refused, all is as it was.
use Rattle.std.specs.Prelude.{Result, Ok, Err}
use Rattle.refusals.specs.declared.Refusal.{Refusal}
use Rattle.refusals.specs.declared.Refused.{Refused}
use Rattle.refusals.proofs.Numbers.{refuses, one_refusal}
use Rattle.axes.specs.declared.Reached.{Reached}
use Rattle.lists.proofs.Kit.{◌≡◌, sym, ap, ap₂, ◌∙◌, subst, List, ℕ, ◌<◌, length}
use Rattle.layout.specs.Layout.{Laid}
use Rattle.orders.specs.Numbers.{order_count}
use Rattle.orders.specs.Releases.{order_by}
use Rattle.orders.proofs.Layouts as layouts
use Rattle.orders.proofs.Releases.{by_named}
use Rattle.refusals.specs.FirstOf.{Check, first_of}
use Rattle.refusals.specs.Promise.{Rearranged}
use Rattle.refusals.proofs.Promise.{either_way, one_outcome}
use Rattle.axes.specs.declared.Answer.{Answer}
use Rattle.axes.specs.Answers.{refused, refused_place, in_c}
use Rattle.axes.specs.Promises.{ChainPromise, RequestPromise}
use Rattle.axes.proofs.Accepted.{request_order}

pub chain_once : {r : ℕ} {ds chain xs ss : List ℕ} → length ds ≡ r → {a a' : Answer} {ys ys' ts ts' : List ℕ}
    → ChainPromise r ds chain xs ss a ys ts → ChainPromise r ds chain xs ss a' ys' ts' → (a ≡ a') × (ys ≡ ys') × (ts ≡ ts')
chain_once {r} {ds} {chain} axes p q =
    let (number, words, scratch) = one_outcome (λ ys zs f g. layouts.chain_once ds axes chain f g) p.block q.block in (
      either_way 0 number
          (λ e e'. p.given e ∙ sym (q.given e'))
          (λ n n'. p.refusal n ∙ ap (λ (k : ℕ). refused k (refused_place r k chain)) number ∙ sym (q.refusal n')),
      words,
      scratch,
    )

-- two layouts under the order that a number names by its release
once : {r : ℕ} {ds xs ys zs : List ℕ} (release order : ℕ) → length ds ≡ r → order < order_count r → Laid ds (order_by r release order) xs ys
    → Laid ds (order_by r release order) xs zs → ys ≡ zs
once {r} {ds} {xs} {ys} {zs} release order axes h f g =
    let (c, e) = by_named r order h release in
    layouts.chain_once ds axes c (subst (λ (o : List ℕ). Laid ds o xs ys) (sym e) f) (subst (λ (o : List ℕ). Laid ds o xs zs) (sym e) g)

-- the right words, and that none of the checks holds
with_checks : {checks : List Check} {needed : ℕ} {Right : List ℕ → Type 0} {xs ss : List ℕ} {n : ℕ} {ys ts : List ℕ}
    → Rearranged checks needed Right xs ss n ys ts → Rearranged checks needed (λ ws. Right ws × (first_of checks ≡ 0)) xs ss n ys ts
with_checks p = record {
  number_is = p.number_is;
  words = λ e. (p.words e, sym p.number_is ∙ e);
  zeroed = p.zeroed;
  kept = p.kept;
}

pub request_once : {r : ℕ} {ds : List ℕ} {release order : ℕ} {xs ss : List ℕ} → length ds ≡ r → {a a' : Answer} {ys ys' ts ts' : List ℕ}
    → RequestPromise r ds release order xs ss a ys ts → RequestPromise r ds release order xs ss a' ys' ts' → (a ≡ a') × (ys ≡ ys') × (ts ≡ ts')
request_once {r} {ds} {release} {order} {xs} {ss} axes p q =
    let (number, words, scratch) =
    one_outcome (λ ys zs f g. once release order axes (request_order r ds xs ss release order f.1) f.0 g.0) (with_checks p.block) (with_checks q.block) in (
      either_way 0 number
          (λ e e'. p.given e ∙ sym (q.given e'))
          (λ n n'. p.refusal n ∙ ap (λ (k : ℕ). refused k 0) number ∙ sym (q.refusal n')),
      words,
      scratch,
    )

-- an answer is told by what C sees of it
pub one_answer : (x y : Result Reached Refused) → in_c x ≡ in_c y → x ≡ y
one_answer (Ok a) (Ok b) e = ap (λ (n : Answer). let reached : Reached = record { lengths = n.lengths; order = n.order; swaps = n.swaps } in Ok reached) e
one_answer (Ok a) (Err s) e = absurd (refuses s.refusal (sym (ap (λ (n : Answer). n.number) e)))
one_answer (Err r) (Ok b) e = absurd (refuses r.refusal (ap (λ (n : Answer). n.number) e))
one_answer (Err r) (Err s) e =
    ap₂ (λ (w : Refusal) (p : ℕ). let refused : Refused = record { refusal = w; place = p } in Err refused)
    (one_refusal r.refusal s.refusal (ap (λ (n : Answer). n.number) e))
    (ap (λ (n : Answer). n.place) e)
