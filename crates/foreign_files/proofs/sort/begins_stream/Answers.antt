use Rattle.std.proofs.Common.{⊎_elim, inl, inr, arith}
use Rattle.std.proofs.lemmas.Bool.{lt-ltb, ltb-true}
use Rattle.foreign_files.proofs.Streams.{told_stream, told_back}
use Rattle.foreign_files.proofs.sort.begins_stream.Goals as goal

pub returns-in-0 : goal.returns-in-0
returns-in-0 c = λ text is. (
  λ yes.
      told_back text c.args.head.now c.args.size c.number_in-number.result is c.told-head c.number_in-number.ensures c.number_in-number.type_inv
      (record { long = c.if-size-lt-ENTRY_HEAD.false; why = inr (let m = c.is_message.ensures.0 yes in (c.in-0.is, m.0, m.1, m.2, m.3)) }),
  λ stream. c.is_message.ensures.1
      (⊎_elim (λ one. absurd (omega (arith, one.0, c.in-0.is))) (λ zero. (zero.1, zero.2, zero.3, zero.4))
      (told_stream text c.args.head.now c.args.size c.number_in-number.result is c.told-head (λ long. c.number_in-number.ensures) stream).why),
)

pub returns-in-1 : goal.returns-in-1
returns-in-1 c = λ text is. (
  λ yes.
      told_back text c.args.head.now c.args.size c.number_in-number.result is c.told-head c.number_in-number.ensures c.number_in-number.type_inv
      (record { long = c.if-size-lt-ENTRY_HEAD.false; why = inl (c.in-1.is, ltb-true 0 c.number_in-number.result yes) }),
  λ stream. lt-ltb 0 c.number_in-number.result
      (⊎_elim (λ one. one.1) (λ zero. zero.1)
      (told_stream text c.args.head.now c.args.size c.number_in-number.result is c.told-head (λ long. c.number_in-number.ensures) stream).why),
)
