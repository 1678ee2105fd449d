use Rattle.std.proofs.Common.{◌≡◌, List, ℕ, Option, [], drop, subst}
use Rattle.std.specs.Io.KnownBytes.{append_known, Keeps}
use Rattle.std.proofs.lemmas.List.{drop_all}
use Rattle.shown_listings.proofs.HeldBack.{handed-on}
use Rattle.shown_listings.proofs.ahead.AheadWrite.write.Goals as goal

pub returns-clause-bytes : goal.returns-clause-bytes
returns-clause-bytes g c =
    let contents = g.W.Write.contents in
    let was = c.args.self.now in
    let held = c.hold.new.self in
    let handed = c.hand_on.new.self in
    let rest = drop handed.taken handed.held.items in
    let after = append_known (contents handed.out) rest in
    let left : drop held.taken held.held.items ≡ drop was.taken was.held.items = c.in_ok-hold.ensures.same c.if-branch.false in
    let P : List ℕ → Type 0 = λ l. Keeps (append_known (contents held.out) l) after in
    let Q : Option (List ℕ) → Type 0 = λ o. Keeps (append_known o (drop was.taken was.held.items)) after in
    let kept : Keeps (append_known (contents was.out) (drop was.taken was.held.items)) after = subst Q c.hold.ensures.out (subst P left c.hand_on.ensures.kept) in
    let nothing : rest ≡ [] = drop_all handed.taken handed.held.items c.in_ok-hand_on.ensures.all in
    handed-on (append_known (contents was.out) (drop was.taken was.held.items)) (contents handed.out) (contents c.write.new.self) rest c.write.result c.args.bytes.now nothing kept c.write.ensures.bytes
