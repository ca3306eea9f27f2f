-- One message more.
use Rattle.std.proofs.Common.{◌≡◌, ◌∙◌, ℕ, ◌+◌, ◌<◌, List, [], ◌∷◌, ◌++◌, length, take, drop, get_or, Ok, Err, inl, inr, refl, sym, ap, subst, arith}
use Rattle.std.proofs.lemmas.List.{drop_more, length-map, take-append-drop, take_more}
use Rattle.esdk_base.specs.Streams.{ShelfState}
use Rattle.header_codec.specs.Header.{HeaderValue}
use Rattle.context_codec.specs.Context.{KeyValue}
use Rattle.keyring_trait.specs.Keyring.{KeyringMeaning}
use Rattle.multi_keyring.specs.Tree.{all_faults}
use Rattle.job_file.specs.declared.audit.AuditMessage.{AuditMessage}
use Rattle.esdk_report.specs.declared.failure.Failure.{Failure}
use Rattle.audit_core.specs.declared.audited.Audited.{Audited}
use Rattle.audit_core.specs.declared.audited.Audited.TheVariants.{OpenedBy, Fault}
use Rattle.audit_core.specs.Asking.{LeafAnswer, NamesOpeners}
use Rattle.audit_core.specs.MessageFiles.{FindsEach, FindsNotEach, FindsNotOf, FindsOf, LacksMemoryForMessage}

-- ---- as many leaves

named_many : (before after : List KeyringMeaning) (h : HeaderValue) (given : List KeyValue) (openers : List ℕ) → NamesOpeners before after h given openers → length after ≡ length before
named_many before after h given openers names = omega (
  arith,
  ap length names.old_is,
  ap length names.now_is,
  length-map names.answers (λ (x : LeafAnswer). x.before),
  length-map names.answers (λ (x : LeafAnswer). x.after),
)

found_many : (old new : ShelfState) (before after : List KeyringMeaning) (m : AuditMessage) (x : Audited) → FindsOf old new before after m x → length after ≡ length before
found_many old new before after m (OpenedBy openers) found = named_many before after found.header m.given openers found.names
found_many old new before after m (Fault fault) found = ap length found.1

pub each_many : (old new : ShelfState) (before after : List KeyringMeaning) (ms : List AuditMessage) (xs : List Audited) → FindsEach old new before after ms xs → length after ≡ length before
each_many old new before after [] [] each = ap length each.1
each_many old new before after [] (x ∷ xs) each = absurd each
each_many old new before after (m ∷ ms) [] each = absurd each
each_many old new before after (m ∷ ms) (x ∷ xs) each =
    each_many each.between new each.leaves after ms xs each.others ∙ found_many old each.between before each.leaves m x each.first

-- ---- one more

pub none_found : (s : ShelfState) (leaves : List KeyringMeaning) → FindsEach s s leaves leaves [] []
none_found s leaves = (refl, refl)

last_found : (old mid new : ShelfState) (before between after : List KeyringMeaning) (ms : List AuditMessage) (xs : List Audited) (m : AuditMessage) (x : Audited)
    → FindsEach old mid before between ms xs → FindsOf mid new between after m x → FindsEach old new before after (ms ++ m ∷ []) (xs ++ x ∷ [])
last_found old mid new before between after [] [] m x each found = record {
  between = new;
  leaves = after;
  first = subst (λ (l : List KeyringMeaning). FindsOf old new l after m x) each.1 (subst (λ (s : ShelfState). FindsOf s new between after m x) each.0 found);
  others = (refl, refl);
}
last_found old mid new before between after [] (y ∷ ys) m x each found = absurd each
last_found old mid new before between after (n ∷ ns) [] m x each found = absurd each
last_found old mid new before between after (n ∷ ns) (y ∷ ys) m x each found = record {
  between = each.between;
  leaves = each.leaves;
  first = each.first;
  others = last_found each.between mid new each.leaves between after ns ys m x each.others found;
}

module _ (messages : List AuditMessage) (i : ℕ) (m : AuditMessage) (lt : i < length messages) (is : m ≡ get_or messages i m) where
  left_from : drop i messages ≡ m ∷ drop (i + 1) messages
  left_from = drop_more messages i m lt ∙ ap (λ x. x ∷ drop (i + 1) messages) (sym is)

  split : messages ≡ take i messages ++ m ∷ drop (i + 1) messages
  split = sym (take-append-drop i messages) ∙ ap (λ (l : List AuditMessage). take i messages ++ l) left_from

  taken : take (i + 1) messages ≡ take i messages ++ m ∷ []
  taken = take_more messages i m lt ∙ ap (λ (y : AuditMessage). take i messages ++ y ∷ []) (sym is)

  pub found_more : (old mid new : ShelfState) (before between after : List KeyringMeaning) (xs more : List Audited) (x : Audited) → more ≡ xs ++ x ∷ []
      → FindsEach old mid before between (take i messages) xs → FindsOf mid new between after m x → FindsEach old new before after (take (i + 1) messages) more
  found_more old mid new before between after xs more x more_is each found =
      subst (λ (l : List Audited). FindsEach old new before after (take (i + 1) messages) l) (sym more_is)
      (subst (λ (l : List AuditMessage). FindsEach old new before after l (xs ++ x ∷ [])) (sym taken) (last_found old mid new before between after (take i messages) xs m x each found))

  -- or nothing is found of it
  pub not_found : (old mid new : ShelfState) (before between : List KeyringMeaning) (counted after : ℕ) (xs : List Audited) (failure : Failure) → counted ≡ all_faults between
      → FindsEach old mid before between (take i messages) xs → FindsNotOf mid new counted after m failure → FindsNotEach old new before after messages failure
  not_found old mid new before between counted after xs failure counts each fails = record {
    done = take i messages;
    message = m;
    behind = drop (i + 1) messages;
    are = split;
    found = xs;
    between = mid;
    leaves = between;
    each = each;
    fails = subst (λ (n : ℕ). FindsNotOf mid new n after m failure) counts fails;
  }

-- ---- memory runs out

-- what was found has no room
lacks_room_by : (old new : ShelfState) (before after : List KeyringMeaning) (m : AuditMessage) (x : Audited) → FindsOf old new before after m x → LacksMemoryForMessage old new (all_faults before) (all_faults after) m
lacks_room_by old new before after m (OpenedBy openers) found = inr (record { header = found.header; has = found.has; sound = found.names.sound })
lacks_room_by old new before after m (Fault fault) (inl has, same) = inl (inr (Err fault, has), ap all_faults same)
lacks_room_by old new before after m (Fault fault) (inr has, same) = inl (inr (Ok has.header, has.has), ap all_faults same)

pub lacks_room : (old new : ShelfState) (before after : List KeyringMeaning) (counted now : ℕ) (m : AuditMessage) (x : Audited) → counted ≡ all_faults before → now ≡ all_faults after
    → FindsOf old new before after m x → LacksMemoryForMessage old new counted now m
lacks_room old new before after counted now m x counts then found =
    subst (λ (n : ℕ). LacksMemoryForMessage old new counted n m) (sym then)
    (subst (λ (n : ℕ). LacksMemoryForMessage old new n (all_faults after) m) (sym counts) (lacks_room_by old new before after m x found))
