-- The opener was fed the bytes that came, and goes on.
use Rattle.std.proofs.Common.{◌≡◌, ◌-◌, ◌^◌, ℕ, List, []}
use Rattle.esdk_base.specs.Receiver.{PutsAll}
use Rattle.keyring_trait.specs.Manager.{Went}
use Rattle.stream_open.specs.Receiving.{FedWhole}
use Rattle.stream_open.specs.Session.{new_opening_session}
use Rattle.esdk_decrypt.specs.Underway.{OpenerIsGoing, OpenerIsNew}
use Rattle.esdk_decrypt.proofs.Pieces.{CameWell}
use Rattle.esdk_decrypt.proofs.decryption.feed_input.Given as goal

abbrev pub invariant-reads : goal.invariant-reads
invariant-reads g l = record {
  going : OpenerIsGoing l.opener;
  went : Went (g.M.Manager.state l.fn.manager) (g.M.Manager.state l.manager);
  lasts : g.S.Source.lasts l.fn.input l.input;
  none : l.gathered ≡ [];
  bytes : List ℕ;
  well : CameWell (g.S.Source.state l.fn.input) (g.S.Source.state l.input) l.pieces.taken bytes;
  fed : (new : OpenerIsNew l.fn.opener)
      → FedWhole g.M.Manager.state (PutsAll g.O.Sink.state) l.now (new_opening_session new.settings new.given) bytes l.fn.manager l.manager l.fn.output l.output l.opener;
}

abbrev pub decreases-reads : goal.decreases-reads
decreases-reads g l = 2 ^ 62 - l.pieces.taken
