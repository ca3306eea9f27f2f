-- What is read of `clap`'s matches, by their rows.
use Rattle.std.proofs.Common.{◌≡◌, ◌⊎◌, ◌∙◌, ℕ, List, Err, refl, sym, ap, subst, inl, inr}
use Rattle.std.specs.Prelude.{Option, Some, None, option_and_then, option_map, find}
use Rattle.std.specs.Str.{bytes_eq}
use Rattle.clap.specs.Facts.{Entry}
use Rattle.clap.specs.Matches.{matched_of}
use Rattle.clap.specs.Walk.{Row, row_of, rows_of}
use Rattle.clap.specs.Faults.{fault_of}
use Rattle.clap.specs.Kinds.{IsAmong}
use Rattle.clap.specs.declared.error.kind.ErrorKind.{ErrorKind}
use Rattle.clap.specs.declared.error.kind.ErrorKind.TheVariants.{OutOfMemory}
use Rattle.clap.specs.declared.parser.matches.Found.{Found}
use Rattle.clap.specs.declared.parser.matches.MatchedArg.{MatchedArg}
use Rattle.clap.proofs.WalkLemmas.{find_row}
use Rattle.esdk_args.specs.declared.commands.CommandName.{CommandName}
use Rattle.esdk_args.specs.Commands.{app_of_command}
use Rattle.esdk_args.specs.Found.{Parses, refusal_of_error}
use Rattle.esdk_args.specs.Values.{source_in}

-- where a value came from
pub source_rows : (f : Found) (id : List ℕ) → option_and_then (λ (a : MatchedArg). a.source) (matched_of f id) ≡ source_in id (rows_of f)
source_rows f id = go (find (λ e. bytes_eq e.0.now id) f.entries.items) ∙ ap (option_and_then (λ (r : Row). r.source)) (sym (find_row f.entries.items id))
  where
    go : (o : Option Entry) → option_and_then (λ (a : MatchedArg). a.source) (option_map (λ e. e.1) o) ≡ option_and_then (λ (r : Row). r.source) (option_map row_of o)
    go None = refl
    go (Some e) = refl

-- an error that isn't want of memory is a refusal
pub refuses : (name : CommandName) (words : List (List ℕ)) (kind : ErrorKind) → (kind ≡ OutOfMemory) ⊎ IsAmong kind (fault_of (app_of_command name) words)
    → Parses name words (Err (refusal_of_error kind))
refuses name words OutOfMemory either = tt
refuses name words kind (inl memory) = λ none. absurd cc
refuses name words kind (inr among) = λ none. subst (IsAmong kind) none among
