use Rattle.std.proofs.Common.{◌≡◌, ◌<◌, ◌++◌, rules, arith, map, length, take, ◌∙◌, ap, append_assoc}
use Rattle.std.proofs.Math.Seq.{take-length}
use Rattle.shown_listings.specs.Rows.{shown_byte, cut_sign, whole, front}
use Rattle.shown_listings.proofs.row.put_text.Goals as goal

pub returns-in_ok-extend_from_slice : goal.returns-in_ok-extend_from_slice
returns-in_ok-extend_from_slice c =
    let text = c.args.text.now in
    let count = c.args.count in
    let row = c.args.row.now.items in
    let less : count < length text = omega arith in
    let first : c.put_shown.new.row.items ≡ row ++ map shown_byte (take count text) = search rules in
    let second : c.extend_from_slice.new.self.items ≡ c.put_shown.new.row.items ++ cut_sign = search rules in (
      map shown_byte (take count text) ++ cut_sign,
      (λ cut may. front count (may less)),
      second ∙ ap (λ l. l ++ cut_sign) first ∙ append_assoc row (map shown_byte (take count text)) cut_sign,
    )

pub returns-else-count-text : goal.returns-else-count-text
returns-else-count-text c =
    let text = c.args.text.now in
    let count = c.args.count in
    let row = c.args.row.now.items in
    let all : count ≡ length text = omega arith in
    let first : c.put_shown.new.row.items ≡ row ++ map shown_byte (take count text) = search rules in (
      map shown_byte text,
      (λ cut may. whole),
      first ∙ ap (λ l. row ++ map shown_byte l) (ap (λ n. take n text) all ∙ take-length text),
    )
