use Rattle.std.proofs.Common.{◌≡◌, ◌+◌, ◌-◌, ◌*◌, ◌^◌, ◌≤◌, ℕ, false, is_some, List, length, drop, ◌++◌}
use Rattle.context_codec.specs.Context.{KeyValue}
use Rattle.header_codec.specs.declared.settings.Settings.{Settings}
use Rattle.keyring_trait.specs.Manager.{Went}
use Rattle.esdk_decrypt.proofs.Pieces.{CameWell}
use Rattle.reseal_core.specs.Session.{new_resealing_session}
use Rattle.reseal_core.specs.Stands.{BearsMade, Stands}
use Rattle.reseal_core.specs.Underway.{IsUnstopped, Reached}
use Rattle.reseal_core.proofs.input.feed_input.Given as goal

abbrev pub invariant-steps : goal.invariant-steps
invariant-steps g l = record {
  within : l.fed ≤ length l.pieces.piece;
  few : length l.pieces.piece ≤ 65536;
  opening : Went (g.A.Manager.state l.fn.opening) (g.A.Manager.state l.opening);
  sealing : Went (g.B.Manager.state l.fn.sealing) (g.B.Manager.state l.sealing);
  random : length l.resealer.message.random ≡ 64 + 12 * (g.B.Manager.state l.sealing).meaning.wraps;
  going : IsUnstopped l.resealer;
  bears : BearsMade (g.B.Manager.state l.fn.sealing) (g.B.Manager.state l.sealing) l.now false (is_some l.resealer.message.sealer);
  lasts : g.S.Source.lasts l.fn.input l.input;
  bytes : List ℕ;
  well : CameWell (g.S.Source.state l.fn.input) (g.S.Source.state l.input) l.pieces.taken (bytes ++ drop l.fed l.pieces.piece);
  reached : (settings : Settings) (given : List KeyValue) (size : ℕ) (random : List ℕ) → Stands l.fn.resealer (new_resealing_session settings given size random)
      → Reached g.A.Manager.state g.B.Manager.state l.now (new_resealing_session settings given size random) bytes l.fn.opening l.opening l.fn.sealing l.sealing (g.O.Sink.state l.fn.output) (g.O.Sink.state l.output) l.resealer;
}

abbrev pub decreases-steps : goal.decreases-steps
decreases-steps g l = 2 * (2 ^ 62 - l.pieces.taken) + (length l.pieces.piece - l.fed)
