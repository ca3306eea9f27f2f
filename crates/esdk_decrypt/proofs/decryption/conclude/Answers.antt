use Rattle.esdk_decrypt.proofs.decryption.conclude.Goals as goal

pub returns-in-Failed : goal.returns-in-Failed
returns-in-Failed c = λ v stands goes. rw c.in-Failed.is tt

pub returns-in-TooLong : goal.returns-in-TooLong
returns-in-TooLong c = λ v stands goes. rw c.in-TooLong.is tt
