-- `cut` meets its contract: halves are cut where elements are long, else lines of 32 to 64 words.
use Rattle.strips.proofs.Cuts.{cut_thin}
use Rattle.strips.proofs.large.cut.Goals as goal

pub returns-else-shape-ge-LONG : goal.returns-else-shape-ge-LONG
returns-else-shape-ge-LONG c = cut_thin c.requires.rows c.args.shape.few c.thin.ensures
