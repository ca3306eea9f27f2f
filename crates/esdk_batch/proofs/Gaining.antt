-- Bytes that were appended to a file, one after another, and fronts of them.
use Rattle.std.proofs.Common.{◌≡◌, ◌∙◌, ℕ, Bool, true, false, List, [], ◌∷◌, ◌++◌, refl, sym, ap, subst, append-nil}
use Rattle.std.specs.Prelude.{bytes_eq}
use Rattle.std.specs.declared.option.Option.{Option}
use Rattle.std.specs.declared.option.Option.TheVariants.{None, Some}
use Rattle.std.specs.Option.{option_map}
use Rattle.std.specs.Cmp.Lexicographic.{nat_list_cmp_total, bytes_decides}
use Rattle.std.specs.FinMap.{same_map}
use Rattle.std.proofs.lemmas.Map.Lookups.{exact_bytes}
use Rattle.esdk_base.specs.Shelf.{Files, file_of}
use Rattle.esdk_batch.specs.Files.{FileGains}

-- ---- no bytes

nothing_more : (held : Option (List ℕ)) → option_map (λ h. h ++ []) held ≡ held
nothing_more None = refl
nothing_more (Some held) = ap (λ (h : List ℕ). Some h) (append-nil held)

same_at : (old new : Option Files) (name q : List ℕ) (b : Bool) → FileGains old new name [] → bytes_eq q name ≡ b → file_of new q ≡ file_of old q
same_at old new name q true gains e =
    let same : q ≡ name = (bytes_decides q name).0 e in
    subst (λ (k : List ℕ). file_of new k ≡ file_of old k) (sym same) (gains.this ∙ nothing_more (file_of old name))
same_at old new name q false gains e = gains.keeps.others q (λ same. absurd (true_false (sym ((bytes_decides q name).1 same) ∙ e)))
  where
    true_false : true ≡ false → ⊥
    true_false e = cc

-- where none were appended, all files are as before
pub same_files : (old new : Option Files) (name : List ℕ) → FileGains old new name [] → new ≡ old
same_files None None name gains = refl
same_files None (Some now) name gains = absurd (let no : true ≡ false = gains.keeps.tells in cc)
same_files (Some files) None name gains = absurd (let no : false ≡ true = gains.keeps.tells in cc)
same_files (Some files) (Some now) name gains =
    ap (λ (f : Files). Some f) (same_map nat_list_cmp_total exact_bytes now files (λ q. same_at (Some files) (Some now) name q (bytes_eq q name) gains refl))
