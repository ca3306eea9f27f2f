use Rattle.esdk_encrypt.proofs.EarlyEnds.{leaves_front}
use Rattle.esdk_encrypt.proofs.SinkGains.{bytes_keep_fronts}
use Rattle.esdk_encrypt.proofs.laws.an_early_end_leaves_a_front.Goals as goal

pub returns-clause-front : goal.returns-clause-front
returns-clause-front c = λ form m size id input taken output put error fronts wide stops. leaves_front form fronts m size id wide input taken output put error stops

pub returns-clause-bytes : goal.returns-clause-bytes
returns-clause-bytes c = bytes_keep_fronts
