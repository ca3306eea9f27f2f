-- What holds of a sealer's sessions, or of an opener's, holds of a machine's that is one.
use Rattle.std.proofs.Common.{◌≡◌, subst}
use Rattle.stream_seal.specs.declared.session.Sealer.{Sealer}
use Rattle.stream_seal.specs.Session.{SealingValue}
use Rattle.stream_seal.specs.Stands as seal
use Rattle.stream_open.specs.declared.session.Opener.{Opener}
use Rattle.stream_open.specs.Session.{OpeningValue}
use Rattle.stream_open.specs.Stands as open_stands
use Rattle.desk_core.specs.declared.session.Session.{Session}
use Rattle.desk_core.specs.declared.session.Session.TheVariants as machines
use Rattle.desk_core.specs.Session.{SessionValue, Sealing, Opening}
use Rattle.desk_core.specs.Stands.{StandsFor}

pub by_sealer : (P : SessionValue → Type 0) (machine : Session) (sealer : Sealer) → machine ≡ machines.Sealing sealer → ((v : SealingValue) → seal.Stands sealer v → P (Sealing v))
    → (s : SessionValue) → StandsFor machine s → P s
by_sealer P machine sealer is all (Sealing v) stands = all v (subst (λ (m : Session). StandsFor m (Sealing v)) is stands)
by_sealer P machine sealer is all (Opening v) stands = absurd (subst (λ (m : Session). StandsFor m (Opening v)) is stands)

pub by_opener : (P : SessionValue → Type 0) (machine : Session) (opener : Opener) → machine ≡ machines.Opening opener → ((v : OpeningValue) → open_stands.Stands opener v → P (Opening v))
    → (s : SessionValue) → StandsFor machine s → P s
by_opener P machine opener is all (Sealing v) stands = absurd (subst (λ (m : Session). StandsFor m (Sealing v)) is stands)
by_opener P machine opener is all (Opening v) stands = all v (subst (λ (m : Session). StandsFor m (Opening v)) is stands)
