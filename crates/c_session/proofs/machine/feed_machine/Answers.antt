use Rattle.std.proofs.Common.{refl}
use Rattle.c_session.proofs.machine.feed_machine.Goals as goal

pub returns-in-Resealing : goal.returns-in-Resealing
returns-in-Resealing g c =
    rw c.in-Resealing.is
    (λ how begun first sealing taken given there so. record {
      resealer = c.feed-in-Resealing.new.self;
      machine = refl;
      reseals = c.feed-in-Resealing.ensures.reseals how begun first sealing taken given there so;
    })
