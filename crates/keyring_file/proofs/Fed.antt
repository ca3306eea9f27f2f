-- A line feed behind the compact text of a value: the text is read as before.
use Rattle.std.proofs.Common.{◌≡◌, ℕ, Bool, true, false, cond, ◌&&◌, List, [], ◌∷◌, ◌++◌, refl, sym, ap, ap₂, subst, ◌∙◌, append_assoc, arith}
use Rattle.std.specs.Prelude.{Some, is_some, option_and_then}
use Rattle.std.specs.Str.{IsUtf8}
use Rattle.std.proofs.lemmas.Str.{IsUtf8-append, IsUtf8-from_ascii}
use Rattle.std.proofs.lemmas.Str.Ascii.{IsAscii-cons, IsAscii-nil}
use Rattle.json.specs.Token.{Token, begin_object, end_object, begin_array, end_array, key, string, number, boolean, null, bad}
use Rattle.json.specs.Word.{ends_word, word}
use Rattle.json.specs.Lex.{Lexeme, token, comma, colon, string_token, lex, between, fresh, punctuate, tokens}
use Rattle.json.specs.Print.{escape, quoted, token_text, begins, ends, separator, print_from, print, IsPrintable, ArePrintable}
use Rattle.json.proofs.Printed.Strings.{content-escape, lex-escape}
use Rattle.json.proofs.Printed.Numbers.{lex-number, in_word-ended}
use Rattle.json.proofs.Printed.Trees.{ArePrintable-json_tokens}
use Rattle.serde_json.specs.Data as values
use Rattle.serde_json.specs.Data.{Data}
use Rattle.serde_json.specs.Find.{as_object}
use Rattle.json.specs.Json as json
use Rattle.serde_json.specs.Read.{read, max_depth, of_json}
use Rattle.serde_json.specs.Written.{compact_text, outline, IsInOrder}
use Rattle.serde_json.proofs.Texts.{tokens_from_order}
use Rattle.json_values.proofs.Texts.{text_value}
use Rattle.keyring_file.specs.KeyFile.{is_json}
use Rattle.keyring_file.specs.Plain.{IsPlain}
use Rattle.keyring_file.specs.Migrate.{IsFileOf}

abbrev token_lexemes : Token → List Lexeme
token_lexemes begin_object = token begin_object ∷ []
token_lexemes end_object = token end_object ∷ []
token_lexemes begin_array = token begin_array ∷ []
token_lexemes end_array = token end_array ∷ []
token_lexemes (key s) = token (string s) ∷ colon ∷ []
token_lexemes (string s) = token (string s) ∷ []
token_lexemes (number s) = token (number s) ∷ []
token_lexemes (boolean b) = token (boolean b) ∷ []
token_lexemes null = token null ∷ []
token_lexemes bad = []

-- after a value stands a comma, a closing bracket or the end
value_ends : (ts : List Token) → ends_word (print_from true ts) ≡ true
unfolding print_from
value_ends [] = refl
value_ends (begin_object ∷ ts) = refl
value_ends (end_object ∷ ts) = refl
value_ends (begin_array ∷ ts) = refl
value_ends (end_array ∷ ts) = refl
value_ends (key s ∷ ts) = refl
value_ends (string s ∷ ts) = refl
value_ends (number s ∷ ts) = refl
value_ends (boolean b ∷ ts) = refl
value_ends (null ∷ ts) = refl
value_ends (bad ∷ ts) = refl

fed_ends : (ts : List Token) → ends_word (print_from true ts ++ 10 ∷ []) ≡ true
unfolding print_from
fed_ends [] = refl
fed_ends (begin_object ∷ ts) = refl
fed_ends (end_object ∷ ts) = refl
fed_ends (begin_array ∷ ts) = refl
fed_ends (end_array ∷ ts) = refl
fed_ends (key s ∷ ts) = refl
fed_ends (string s ∷ ts) = refl
fed_ends (number s ∷ ts) = refl
fed_ends (boolean b ∷ ts) = refl
fed_ends (null ∷ ts) = refl
fed_ends (bad ∷ ts) = refl

lex-quoted : (s r : List ℕ) → lex between (quoted s ++ r) ≡ token (string s) ∷ lex between r
unfolding lex
lex-quoted s r =
    let e = append_assoc (escape s) (34 ∷ []) r in
    ap (λ l. lex between (34 ∷ l)) e ∙ ap₂ (λ o l. token (string_token o) ∷ l) (content-escape s r) (lex-escape s r)

lex-token : (t : Token) (r : List ℕ) → IsPrintable t → (ends t ≡ true → ends_word r ≡ true) → lex between (token_text t ++ r) ≡ token_lexemes t ++ lex between r
unfolding lex word
lex-token begin_object r h ended = refl
lex-token end_object r h ended = refl
lex-token begin_array r h ended = refl
lex-token end_array r h ended = refl
lex-token (key s) r h ended = ap (lex between) (append_assoc (quoted s) (58 ∷ []) r) ∙ lex-quoted s (58 ∷ r)
lex-token (string s) r h ended = lex-quoted s r
lex-token (number s) r h ended = lex-number s r h (ended refl)
lex-token (boolean true) r h ended = ap₂ (λ b l. token (cond b (boolean true) bad) ∷ l) (ended refl) (in_word-ended r (ended refl))
lex-token (boolean false) r h ended = ap₂ (λ b l. token (cond b (boolean false) bad) ∷ l) (ended refl) (in_word-ended r (ended refl))
lex-token null r h ended = ap₂ (λ b l. token (cond b null bad) ∷ l) (ended refl) (in_word-ended r (ended refl))
lex-token bad r h ended = absurd h

lex-comma : (b : Bool) (r : List ℕ) → lex between (cond b (44 ∷ []) [] ++ r) ≡ cond b (comma ∷ []) [] ++ lex between r
unfolding lex
lex-comma true r = refl
lex-comma false r = refl

lex-fed : (c : Bool) (ts : List Token) → ArePrintable ts → lex between (print_from c ts ++ 10 ∷ []) ≡ lex between (print_from c ts)
unfolding lex print_from ArePrintable
lex-fed c [] h = refl
lex-fed c (t ∷ ts) h =
    let rest = print_from (ends t) ts in
    let behind = append_assoc (separator c t) (token_text t ++ rest) (10 ∷ []) ∙ ap (λ l. separator c t ++ l) (append_assoc (token_text t) rest (10 ∷ [])) in
    let fed = lex-token t (rest ++ 10 ∷ []) h.0 (λ e. ap (λ b. ends_word (print_from b ts ++ 10 ∷ [])) e ∙ fed_ends ts) in
    let plain = lex-token t rest h.0 (λ e. ap (λ b. ends_word (print_from b ts)) e ∙ value_ends ts) in
    ap (lex between) behind
    ∙ lex-comma (c && begins t) (token_text t ++ (rest ++ 10 ∷ []))
    ∙ ap (λ l. cond (c && begins t) (comma ∷ []) [] ++ l) (fed ∙ ap (λ l. token_lexemes t ++ l) (lex-fed (ends t) ts h.1) ∙ sym plain)
    ∙ sym (lex-comma (c && begins t) (token_text t ++ rest))

-- a printed text has the same tokens with a line feed behind it
tokens-fed : (text : List ℕ) → text ≡ print (tokens text) → ArePrintable (tokens text) → tokens (text ++ 10 ∷ []) ≡ tokens text
tokens-fed text printed h =
    ap (λ t. tokens (t ++ 10 ∷ [])) printed ∙ ap (punctuate fresh) (lex-fed false (tokens text) h) ∙ sym (ap tokens printed)

object_is_json : (d : Data) → is_some (as_object d) ≡ true → is_json (compact_text d ++ 10 ∷ []) ≡ true
unfolding is_json
object_is_json values.null is = absurd cc
object_is_json (values.boolean b) is = absurd cc
object_is_json (values.number n) is = absurd cc
object_is_json (values.string s) is = absurd cc
object_is_json (values.array ds) is = absurd cc
object_is_json (values.object ms) is = refl

-- texts of the same tokens are read alike
same_read : (a b : List ℕ) → tokens a ≡ tokens b → read a ≡ read b
same_read a b same = ap (λ ts. option_and_then of_json (option_and_then (λ p. json.if_last p.0 p.1) (json.value max_depth ts))) same

-- the text of a plain value, and a line feed, are its file
pub written_file : (text : List ℕ) (d : Data) → IsPlain 127 d → is_some (as_object d) ≡ true → text ≡ compact_text d → text ≡ print (tokens text) → IsUtf8 text → IsInOrder text d
    → read text ≡ Some d → IsFileOf (text ++ 10 ∷ []) d
written_file text d plain object is printed utf8 order back =
    let are = subst ArePrintable (sym (tokens_from_order text d order plain.whole)) (ArePrintable-json_tokens (outline d) plain.numbers) in
    let fed = tokens-fed text printed are in
    let feed : IsUtf8 (10 ∷ []) = IsUtf8-from_ascii (10 ∷ []) (IsAscii-cons 10 [] (omega arith) IsAscii-nil) in
    record {
      text = ap (λ t. t ++ 10 ∷ []) is;
      json = ap (λ t. is_json (t ++ 10 ∷ [])) is ∙ object_is_json d object;
      value = text_value (text ++ 10 ∷ []) (Some d) (IsUtf8-append text (10 ∷ []) utf8 feed) (same_read (text ++ 10 ∷ []) text fed ∙ back);
    }
