use Rattle.std.proofs.Common.{◌≡◌, ◌++◌, ◌∷◌, [], ◌∙◌, List, ap, append_assoc, rules, SFits, w64}
use Rattle.std.proofs.lemmas.Int.{to_z-of_z}
use Rattle.std.specs.Fmt.{signed_decimal}
use Rattle.std.proofs.lemmas.Result.{on_ok_weaker}
use Rattle.json.specs.Token.{Token, string}
use Rattle.trace_views.proofs.events.put_times.Goals as goal

-- two more, and then one and one
joined : (xs ys zs us : List Token) (a b c d : Token) → ys ≡ xs ++ (a ∷ b ∷ []) → zs ≡ ys ++ (c ∷ []) → us ≡ zs ++ (d ∷ []) → us ≡ xs ++ (a ∷ b ∷ c ∷ d ∷ [])
joined xs ys zs us a b c d two one last =
    last ∙ ap (λ (l : List Token). l ++ (d ∷ [])) (one ∙ ap (λ (l : List Token). l ++ (c ∷ [])) two) ∙ append_assoc (xs ++ (a ∷ b ∷ [])) (c ∷ []) (d ∷ []) ∙ append_assoc xs (a ∷ b ∷ []) (c ∷ d ∷ [])

pub returns-in-None-clause-tokens : goal.returns-in-None-clause-tokens
returns-in-None-clause-tokens c = rw c.in-None.is c.put_member.ensures.tokens

pub returns-in_ok-key-in-Some-clause-tokens : goal.returns-in_ok-key-in-Some-clause-tokens
returns-in_ok-key-in-Some-clause-tokens c =
    let fits : SFits w64 c.in-Some.first = search rules in
    let same = to_z-of_z w64 c.in-Some.first fits in
    rw c.in-Some.is (on_ok_weaker c.quoted_i64.result (λ last. joined c.args.out.now.tokens c.put_member-in-Some.new.out.tokens c.key.new.self.tokens c.quoted_i64.new.self.tokens _ _ _ (string (signed_decimal c.in-Some.first)) c.in_ok-put_member-in-Some.ensures.tokens c.in_ok-key-in-Some.ensures.ok (last ∙ ap (λ z. c.key.new.self.tokens ++ (string (signed_decimal z) ∷ [])) same)) c.quoted_i64.ensures.ok)
