-- Pieces that are fed one after another, each to its end.
use Rattle.std.proofs.Common.{◌≡◌, ℕ, ◌≤◌, List, [], ◌∷◌, ◌++◌, length, Option, None, refl, sym, ap, ◌∙◌, arith, append_assoc}
use Rattle.std.specs.List.{concat}
use Rattle.std.proofs.lemmas.List.{append-nil, length-append}
use Rattle.keyring_trait.specs.Materials.{EncMaterialsValue}
use Rattle.stream_seal.specs.Session.{SealingValue, beginning, sealing_finished, new_sealing_session}
use Rattle.stream_seal.specs.Start.{message_of, most_text}
use Rattle.stream_seal.specs.Laws.{IsSameMessage}
use Rattle.stream_seal.specs.Feeding.{most_of, most_taken, feed_refusal, fed, fed_out, given_so_far, fed_all, all_fed_out, SealerIsFed, FeedsAll}
use Rattle.stream_seal.proofs.Feeding.{begin_fed, feeds, finishes, refuses_piece}

-- sessions of the same message take equally many bytes at the most
same_most : (v w : SealingValue) → IsSameMessage v w → most_taken w ≡ most_taken v
same_most v w same = ap (λ (o : Option ℕ). most_of o (most_text w.size)) same.declared ∙ ap (λ (n : ℕ). most_of v.declared (most_text n)) same.size

pub feeds_all : (pieces : List (List ℕ)) (v : SealingValue) → SealerIsFed v → length (v.taken ++ concat pieces) ≤ most_taken v → FeedsAll v pieces
unfolding fed_all all_fed_out
feeds_all [] v is room = record {
  is_fed = is;
  same = record { materials = refl; declared = refl; size = refl; id = refl };
  taken = sym (append-nil v.taken);
  given = sym (append-nil (given_so_far v));
}
feeds_all (p ∷ ps) v is room =
    let first = feeds v p is in
    let why : feed_refusal v p ≡ None =
    (refuses_piece v p).none.1 (omega (arith, room, length-append v.taken (p ++ concat ps), length-append p (concat ps), length-append v.taken p)) in
    let whole = first.whole why in
    let all : (fed v p).taken ++ concat ps ≡ v.taken ++ concat (p ∷ ps) = ap (λ (l : List ℕ). l ++ concat ps) whole.0 ∙ append_assoc v.taken p (concat ps) in
    let rest = feeds_all ps (fed v p) whole.1 (omega (arith, room, ap length all, same_most v (fed v p) first.same)) in
    record {
      is_fed = rest.is_fed;
      same = record {
        materials = rest.same.materials ∙ first.same.materials;
        declared = rest.same.declared ∙ first.same.declared;
        size = rest.same.size ∙ first.same.size;
        id = rest.same.id ∙ first.same.id;
      };
      taken = rest.taken ∙ all;
      given = rest.given ∙ ap (λ (l : List ℕ). l ++ all_fed_out ps (fed v p)) first.given ∙ append_assoc (given_so_far v) (fed_out v p) (all_fed_out ps (fed v p));
    }

pub fed_any_cut : (m : EncMaterialsValue) (declared : Option ℕ) (size : ℕ) (id : List ℕ) (pieces : List (List ℕ)) → 1 ≤ size → length (concat pieces) ≤ most_of declared (most_text size)
    → beginning (new_sealing_session m declared size id) ++ all_fed_out pieces (new_sealing_session m declared size id) ++ (sealing_finished (fed_all pieces (new_sealing_session m declared size id))).out ≡ message_of m size id (concat pieces)
fed_any_cut m declared size id pieces wide room =
    let begun : SealingValue = new_sealing_session m declared size id in
    let now : SealingValue = fed_all pieces begun in
    let begins = begin_fed m declared size id wide in
    let all = feeds_all pieces begun begins.is_fed room in
    let given : given_so_far now ≡ beginning begun ++ all_fed_out pieces begun = all.given ∙ ap (λ (l : List ℕ). l ++ all_fed_out pieces begun) begins.given in
    ap (λ (l : List ℕ). l ++ (sealing_finished now).out) (sym given)
    ∙ finishes now all.is_fed
    ∙ ap (λ (t : List ℕ). message_of now.materials now.size now.id t) all.taken
    ∙ ap (λ (w : EncMaterialsValue). message_of w now.size now.id (concat pieces)) all.same.materials
    ∙ ap (λ (n : ℕ). message_of m n now.id (concat pieces)) all.same.size
    ∙ ap (λ (l : List ℕ). message_of m size l (concat pieces)) all.same.id
