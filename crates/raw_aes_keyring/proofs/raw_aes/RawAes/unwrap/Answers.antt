use Rattle.std.proofs.Common.{◌≡◌, List, [], ◌∷◌, drop, rules, sym, ap, ◌∙◌}
use Rattle.edk_codec.specs.Entry.{Entry}
use Rattle.keyring_trait.specs.Wrapping.{WrapKeyValue, first_some, unwrap, unwrapped}
use Rattle.raw_aes_keyring.proofs.Entries.{unwrapped_from, unwrapped_none}
use Rattle.raw_aes_keyring.proofs.raw_aes.RawAes.unwrap.Goals as goal

pub returns-then-first-entries : goal.returns-then-first-entries
returns-then-first-entries c =
    let context = c.args.context.now in
    let entries = c.args.entries.now in
    sym (unwrapped_none c.self.inside.key context entries c.first_own-first.result (search rules) c.first_own-first.ensures.passed)
    ∙ ap (λ (w : WrapKeyValue). unwrapped (w ∷ []) entries context) c.self.view_is

pub returns : goal.returns
returns c =
    let context = c.args.context.now in
    let entries = c.args.entries.now in
    let left : c.split_at.result.1.now ≡ drop c.first_own-first.result entries = search rules in
    c.first_unwrapped.ensures context (c.bytes.ensures ∙ c.in_ok-aad.ensures.text)
    ∙ ap (λ (es : List Entry). first_some (unwrap c.self.inside.key context) es) left
    ∙ sym (unwrapped_from c.self.inside.key context entries c.first_own-first.result c.first_own-first.ensures.passed)
    ∙ ap (λ (w : WrapKeyValue). unwrapped (w ∷ []) entries context) c.self.view_is
