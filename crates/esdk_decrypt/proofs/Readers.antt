-- What is judged with a reader's answer is the reader's judgement.
use Rattle.std.proofs.Common.{◌≡◌, ℕ, List, ◌++◌, refl, sym, ap, subst, ◌∙◌}
use Rattle.esdk_fields.specs.Place.{start}
use Rattle.esdk_fields.specs.Reading.{Reading, Read, Refused, Wanting}
use Rattle.header_codec.specs.Table.{HeaderFields, header}
use Rattle.keyring_trait.specs.Unlocking.{Unlocking, Refuses, Unlocks}
use Rattle.message_format.specs.Judgement.{judged}
use Rattle.message_format.specs.Reading.{unlock_reading, unlocking}
use Rattle.message_format.proofs.Judging.{judged_refused, judged_wanting}
use Rattle.message_format.proofs.ReadingOn.{read_is, unlocking_is}
use Rattle.esdk_decrypt.specs.Decrypt.{AnswersReading, AnswersTo, FailsReading, FailsTo}
use Rattle.esdk_decrypt.specs.Told.{Reader, answering_by, judged_by}
use Rattle.esdk_decrypt.proofs.Answering.{answers_before}

answer_is : (reader : Reader) (b : List ℕ) (r : Reading HeaderFields) (answer : Unlocking) → AnswersReading (answering_by reader) reader.given b r answer
    → answer ≡ unlock_reading b reader.given reader.required reader.keys r
answer_is reader b (Read parts body) (Unlocks whole only key) answers = sym answers.1
answer_is reader b (Read parts body) (Refuses fault) is = sym is
answer_is reader b (Refused fault at) answer is = is
answer_is reader b Wanting answer is = is

-- the answer is what the header unlocks to
pub answers_unlocking : (reader : Reader) (b : List ℕ) (answer : Unlocking) → AnswersTo (answering_by reader) reader.settings reader.given b answer
    → answer ≡ unlocking b reader.settings reader.given reader.required reader.keys
answers_unlocking reader b answer answers =
    answer_is reader b (header reader.settings (start b)) answer answers
    ∙ sym (unlocking_is b reader.settings reader.given reader.required reader.keys (header reader.settings (start b)) refl)

pub judged_reader : (reader : Reader) (b : List ℕ) (answer : Unlocking) → AnswersTo (answering_by reader) reader.settings reader.given b answer
    → judged b reader.settings answer ≡ judged_by reader b
judged_reader reader b answer answers =
    ap (judged b reader.settings) (answers_unlocking reader b answer answers) ∙ sym (read_is b reader.settings reader.given reader.required reader.keys)

-- the same of bytes that come first
judged_by_first : (reader : Reader) (first piece : List ℕ) (answer : Unlocking) (r : Reading HeaderFields) → header reader.settings (start first) ≡ r
    → AnswersTo (answering_by reader) reader.settings reader.given (first ++ piece) answer → judged first reader.settings answer ≡ judged_by reader first
judged_by_first reader first piece answer (Read parts p) e answers = judged_reader reader first answer (answers_before (answering_by reader) reader.settings reader.given first piece answer parts p e answers)
judged_by_first reader first piece answer (Refused fault at) e answers =
    judged_refused first reader.settings answer fault at e ∙ sym (judged_refused first reader.settings (unlocking first reader.settings reader.given reader.required reader.keys) fault at e)
    ∙ sym (read_is first reader.settings reader.given reader.required reader.keys)
judged_by_first reader first piece answer Wanting e answers =
    judged_wanting first reader.settings answer e ∙ sym (judged_wanting first reader.settings (unlocking first reader.settings reader.given reader.required reader.keys) e)
    ∙ sym (read_is first reader.settings reader.given reader.required reader.keys)

pub judged_first : (reader : Reader) (bytes first piece : List ℕ) (answer : Unlocking) → bytes ≡ first ++ piece → AnswersTo (answering_by reader) reader.settings reader.given bytes answer
    → judged first reader.settings answer ≡ judged_by reader first
judged_first reader bytes first piece answer all answers =
    judged_by_first reader first piece answer (header reader.settings (start first)) refl
    (subst (λ (b : List ℕ). AnswersTo (answering_by reader) reader.settings reader.given b answer) all answers)

-- and a reader doesn't fail
none_fails : (reader : Reader) (b : List ℕ) (r : Reading HeaderFields) → ¬ (FailsReading (answering_by reader) reader.given b r)
none_fails reader b (Read parts body) none = none
none_fails reader b (Refused fault at) none = none
none_fails reader b Wanting none = none

pub never_fails : (reader : Reader) (b : List ℕ) → ¬ (FailsTo (answering_by reader) reader.settings reader.given b)
never_fails reader b fails = none_fails reader b (header reader.settings (start b)) fails
