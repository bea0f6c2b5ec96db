-- `forth` meets its contract: the line receives the words of the places that its walk goes over, which are those that its pass says.
use Rattle.lists.proofs.Kit.{refl}
use Rattle.flat.proofs.Sides.{sides_are}
use Rattle.passes.proofs.PassWalks.{follows_line}
use Rattle.passes.proofs.Received.{moved_as, received_moved}
use Rattle.passes.proofs.turning.forth.Goals as goal

pub returns : goal.returns
returns c =
    let s = c.args.s in
    let is = c.requires.of_pass in
    let goes = rw (c.new-lines.ensures.0, c.new-lines.ensures.1) at c.walk.ensures in
    let begins = rw (c.new-lines.ensures.0, c.new-lines.ensures.1) at c.first.ensures in
    let f = follows_line s.m s.n c.args.l is goes begins in (
      received_moved (sides_are s.m s.n s.m_pos s.n_pos) s.m_pos s.n_pos c.args.l is _ _ (moved_as (λ k h. refl) f.places c.go.ensures.0),
      c.go.ensures.1,
    )
