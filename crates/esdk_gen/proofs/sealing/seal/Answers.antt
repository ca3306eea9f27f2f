use Rattle.std.proofs.Common.{◌∙◌, ℕ, refl, subst}
use Rattle.esdk_gen.specs.Sealing.{IsIdle, gen_session}
use Rattle.esdk_gen.proofs.Sealings.{message_then}
use Rattle.esdk_gen.proofs.sealing.seal.Goals as goal

pub header-requires : goal.header-requires
header-requires c = let (key, idle) = c.requires.idle in (key, c.args.random.now, c.in_ok-id.ensures.session key idle)

pub feed_text-requires-clause-live : goal.feed_text-requires-clause-live
feed_text-requires-clause-live c =
    let (key, idle) = c.requires.idle in
    (key, gen_session key c.args.random.now, c.in_ok-message.ensures key c.args.random.now (c.in_ok-id.ensures.session key idle), refl)

pub end-requires : goal.end-requires
end-requires c =
    let (key, idle) = c.requires.idle in
    let sealing = c.in_ok-message.ensures key c.args.random.now (c.in_ok-id.ensures.session key idle) in
    let sealed = c.in_ok-feed_text.ensures key (gen_session key c.args.random.now) sealing refl in
    (key, sealed.session, sealed.sealing)

pub returns-clause-message : goal.returns-clause-message
returns-clause-message c = λ key idle.
    let sealing = c.in_ok-message.ensures key c.args.random.now (c.in_ok-id.ensures.session key idle) in
    let sealed = c.in_ok-feed_text.ensures key (gen_session key c.args.random.now) sealing refl in
    c.into_bytes.ensures ∙ c.in_ok-end.ensures.message key sealed.session sealed.sealing ∙ message_then key c.args.random.now _ sealed.session sealed.same sealed.taken

pub returns-clause-idle : goal.returns-clause-idle
returns-clause-idle c = λ key idle.
    let sealing = c.in_ok-message.ensures key c.args.random.now (c.in_ok-id.ensures.session key idle) in
    let sealed = c.in_ok-feed_text.ensures key (gen_session key c.args.random.now) sealing refl in
    subst (λ (n : ℕ). IsIdle c.end.new.desk key n) (c.in_ok-id.ensures.number key idle) (c.in_ok-end.ensures.idle key sealed.session sealed.sealing)
