use Rattle.std.proofs.Common.{inl, inr, refl}
use Rattle.std.proofs.lemmas.Result.{err_from_is_err_and}
use Rattle.keyring_trait.specs.Saying.{said_last}
use Rattle.esdk_encrypt.specs.Encrypt.{EncryptAsked, encrypting_from}
use Rattle.esdk_encrypt.specs.Gaining.{gaining}
use Rattle.esdk_encrypt.proofs.Asking.{bears_done}
use Rattle.esdk_encrypt.proofs.Ending.{ends_done, ends_stopped, ends_ungiven, ends_unstarted}
use Rattle.esdk_encrypt.proofs.Telling.{stops_told, writes_told}
use Rattle.esdk_encrypt.proofs.encryption.encrypt.Goals as goal

-- ---- no materials

pub returns-in_err-given-clause-ends : goal.returns-in_err-given-clause-ends
returns-in_err-given-clause-ends g c =
    let p = err_from_is_err_and c.from_residual.result c.from_residual.ensures.1 in
    rw (p.1, p.2) (
    ends_ungiven (g.M.Manager.state c.args.manager.now) (g.M.Manager.state c.ask.new.manager) c.args.request.now c.args.options.now c.args.options.frame_length c.args.options.max_keys
    (g.S.Source.state c.args.input.now) (gaining g.O.Receiver.takes g.O.Receiver.fails c.args.output.now c.args.output.now) (g.W.Entropy.state c.args.entropy.now) (g.W.Entropy.state c.ask.new.entropy) _ _
    c.in_err-given.field-0.0 (refl {a = c.args.input.now}, refl {a = c.args.output.now}) c.in_err-given.ensures.none
    )

pub returns-in_err-given-clause-stops : goal.returns-in_err-given-clause-stops
returns-in_err-given-clause-stops g c =
    stops_told (g.M.Manager.state c.args.manager.now) (g.M.Manager.state c.ask.new.manager) c.args.request.now c.args.options.now _ c.args.options.max_keys _ _ _ _ _ _ _ c.from_residual.result
    c.ask.ensures.counts (returns-in_err-given-clause-ends g c)

pub returns-in_err-given-clause-bears : goal.returns-in_err-given-clause-bears
returns-in_err-given-clause-bears g c =
    let p = err_from_is_err_and c.from_residual.result c.from_residual.ensures.1 in
    rw p.1 (inl c.in_err-given.ensures.bears)

-- ---- no header

pub returns-in_err-sealer-clause-ends : goal.returns-in_err-sealer-clause-ends
returns-in_err-sealer-clause-ends g c =
    let asked : EncryptAsked = encrypting_from (said_last (g.M.Manager.state c.args.manager.now) (g.M.Manager.state c.ask.new.manager)) c.args.request.now c.args.options.now
    c.args.options.frame_length c.args.options.max_keys in
    let p = err_from_is_err_and c.from_residual-in_err-sealer.result c.from_residual-in_err-sealer.ensures.1 in
    rw (p.1, p.2) (
    ends_unstarted asked _ _ _ _ c.in_ok-given.given.draws c.in_ok-given.given.materials c.message_id-id.result _ _ c.in_err-sealer.field-0.0 c.in_ok-given.ensures.given c.begin.ensures.each
    (refl {a = c.args.input.now}, refl {a = c.args.output.now}) c.message_id-id.ensures c.in_err-sealer.ensures.cause
    )

pub returns-in_err-sealer-clause-stops : goal.returns-in_err-sealer-clause-stops
returns-in_err-sealer-clause-stops g c =
    stops_told (g.M.Manager.state c.args.manager.now) (g.M.Manager.state c.ask.new.manager) c.args.request.now c.args.options.now _ c.args.options.max_keys _ _ _ _ _ _ _ c.from_residual-in_err-sealer.result
    c.ask.ensures.counts (returns-in_err-sealer-clause-ends g c)

pub returns-in_err-sealer-clause-bears : goal.returns-in_err-sealer-clause-bears
returns-in_err-sealer-clause-bears g c =
    let p = err_from_is_err_and c.from_residual-in_err-sealer.result c.from_residual-in_err-sealer.ensures.1 in
    rw p.1 (inr c.in_ok-given.ensures.bears)

-- ---- the message

pub write-requires : goal.write-requires
write-requires g c = record {
  unfed = record {
    materials = c.in_ok-given.given.materials;
    size = c.args.options.frame_length;
    id = c.message_id-id.result;
    wide = c.requires.some;
    stands = c.in_ok-sealer.ensures.stands;
  };
  none = c.in_ok-sealer.ensures.none;
  empty = c.in_ok-sealer.ensures.empty;
}

pub returns-clause-done : goal.returns-clause-done
returns-clause-done g c =
    let asked : EncryptAsked = encrypting_from (said_last (g.M.Manager.state c.args.manager.now) (g.M.Manager.state c.ask.new.manager)) c.args.request.now c.args.options.now
    c.args.options.frame_length c.args.options.max_keys in
    ends_done asked _ _ _ _ _ c.in_ok-given.given.draws c.in_ok-given.given.materials c.message_id-id.result c.write.result c.in_ok-given.ensures.given c.message_id-id.ensures c.in_ok-sealer.ensures.taken
    (c.write.ensures.writes c.in_ok-given.given.materials c.args.options.frame_length c.message_id-id.result c.requires.some c.in_ok-sealer.ensures.stands)

pub returns-clause-ends : goal.returns-clause-ends
returns-clause-ends g c =
    let asked : EncryptAsked = encrypting_from (said_last (g.M.Manager.state c.args.manager.now) (g.M.Manager.state c.ask.new.manager)) c.args.request.now c.args.options.now
    c.args.options.frame_length c.args.options.max_keys in
    ends_stopped asked _ _ _ _ _ c.in_ok-given.given.draws c.in_ok-given.given.materials c.message_id-id.result _ _ c.write.result c.in_ok-given.ensures.given c.message_id-id.ensures c.in_ok-sealer.ensures.taken
    (c.write.ensures.writes c.in_ok-given.given.materials c.args.options.frame_length c.message_id-id.result c.requires.some c.in_ok-sealer.ensures.stands)

pub returns-clause-writes : goal.returns-clause-writes
returns-clause-writes g c =
    writes_told (g.M.Manager.state c.args.manager.now) (g.M.Manager.state c.ask.new.manager) c.args.request.now c.args.options.now _ c.args.options.max_keys _ _ _ _ _ c.write.result
    c.ask.ensures.counts (returns-clause-done g c)

pub returns-clause-stops : goal.returns-clause-stops
returns-clause-stops g c =
    stops_told (g.M.Manager.state c.args.manager.now) (g.M.Manager.state c.ask.new.manager) c.args.request.now c.args.options.now _ c.args.options.max_keys _ _ _ _ _ _ _ c.write.result
    c.ask.ensures.counts (returns-clause-ends g c)

pub returns-clause-bears : goal.returns-clause-bears
returns-clause-bears g c =
    bears_done (g.M.Manager.state c.args.manager.now) (g.M.Manager.state c.ask.new.manager) c.args.options.now c.args.request.now.declared c.write.result c.in_ok-given.ensures.bears
