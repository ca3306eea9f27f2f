use Rattle.body_format.proofs.BodyLaws.{front_releases, frames_going}
use Rattle.body_format.proofs.laws.whole_frames_are_released.Goals as goal

pub returns : goal.returns
returns c = record { fronts = front_releases; full = frames_going }
