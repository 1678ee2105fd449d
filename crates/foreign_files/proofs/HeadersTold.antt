-- The header that the first bytes of a text tell.
use Rattle.std.proofs.Common.{◌≡◌, ℕ, ◌+◌, ◌<◌, ◌≤◌, Option, Some, None, List, [], length, get_or, take, drop, sym, ◌∙◌, ap, subst, arith, length-drop}
use Rattle.std.specs.Prelude.{MatchOption}
use Rattle.std.proofs.lemmas.List.{get_or-take, get_or-drop, drop-take}
use Rattle.trace_store.specs.Disk.{IsBytes}
use Rattle.segment.specs.Segments.{Header, header_bytes, header_at}
use Rattle.segment.specs.Seen.{header_seen, IsSegHeader}
use Rattle.segment.specs.declared.header.SegHeader.{SegHeader}
use Rattle.segment.proofs.Scan.{head_taken}
use Rattle.segment.proofs.Taken.{header_is}
use Rattle.segment.proofs.Texts.{header_again, length-header_bytes}
use Rattle.std.proofs.lemmas.List.{take_at, append-nil}
use Rattle.foreign_files.specs.Headers.{OpensWith, IsHeaderOf}

-- of the 36 bytes and of the whole text
of_text : (text head : List ℕ) → head ≡ take 36 text → header_at (drop 1 head) ≡ header_at (drop 1 text)
of_text text head is = ap (λ (l : List ℕ). header_at (drop 1 l)) is ∙ ap (λ (l : List ℕ). header_at l) (drop-take 1 35 text) ∙ head_taken (drop 1 text)

bytes_behind : (text : List ℕ) → IsBytes text → IsBytes (drop 1 text)
bytes_behind text bytes i = subst (λ (b : ℕ). b < 256) (sym (get_or-drop 1 text i 0)) (bytes (1 + i))

-- a header that stands there is found
pub found : (text : List ℕ) (h : Header) → OpensWith text h → header_at (drop 1 text) ≡ Some h
found text h has =
    sym (head_taken (drop 1 text)) ∙ ap (λ (l : List ℕ). header_at l) (has.is ∙ sym (append-nil (header_bytes h))) ∙ header_again h [] has.lawful

pub header_told : (text head : List ℕ) (r : Option SegHeader) (n : ℕ) → IsBytes text → n ≡ length text → 37 ≤ n → head ≡ take 36 text → get_or head 0 0 ≡ 1
    → MatchOption r (header_at (drop 1 head) ≡ None) (λ h. (header_at (drop 1 head) ≡ Some (header_seen h)) × IsSegHeader h) → IsHeaderOf r text
header_told text head None n bytes size long is opened told = λ h has. absurd (let a = found text h has in let b = of_text text head is in let z : None ≡ Some h = sym told ∙ b ∙ a in cc)
header_told text head (Some h) n bytes size long is opened told =
    let at : header_at (drop 1 text) ≡ Some (header_seen h) = sym (of_text text head is) ∙ told.0 in
    let has = header_is (drop 1 text) (header_seen h) (bytes_behind text bytes) (omega (arith, size, long, length-drop 1 text)) at in
    let near : 0 < 36 = omega arith in
    record {
      opened = (omega (arith, size, long), sym (get_or-take 36 text 0 0 near) ∙ ap (λ (l : List ℕ). get_or l 0 0) (sym is) ∙ opened);
      lawful = has.lawful;
      is = ap (λ (l : List ℕ). take 35 l) has.is ∙ take_at (header_bytes (header_seen h)) (drop 35 (drop 1 text)) 35 (length-header_bytes (header_seen h));
    }

-- a text has one header
pub same_header : (text : List ℕ) (a b : Header) → OpensWith text a → OpensWith text b → a ≡ b
same_header text a b has other = let x = found text a has in let y = found text b other in cc
