-- A file's front that grows piece by piece.
use Rattle.std.proofs.Common.{◌≡◌, ◌≤◌, ◌<◌, ◌+◌, ℕ, List, [], ◌∷◌, ◌++◌, inl, inr, length, drop, Bool, true, false, Option, Err, refl, ap, subst, sym, arith, ◌∙◌, append-nil, length-append}
use Rattle.std.proofs.lemmas.List.{append_cancel_left}
use Rattle.esdk_fields.specs.Counts.{RoseBy}
use Rattle.esdk_base.specs.Shelf.{Files, Holds, is_missing}
use Rattle.esdk_base.specs.Streams.{FailsToRead, ShelfState}
use Rattle.whole_input.specs.declared.file.FileError.{FileError}
use Rattle.whole_input.specs.declared.file.FileError.TheVariants.{Shelf, TooLong, Memory}
use Rattle.esdk_seen.specs.Calls.{ShelfCall, reads}
use Rattle.whole_input.specs.FileReads.{ReadsRow, ReadsWholeFile}
use Rattle.whole_input.specs.FileReadsLaws.{row_ends, row_more, row_none, row_one}
use Rattle.whole_input.specs.Pieces.{most_piece}
use Rattle.whole_input.specs.File.{Adds, FileCause, IsFile, IsFront, IsLong, FilePieceIsRead, most_file}

-- Where the shelf tells, these bytes are the file's front; if there are any, the file is there. Just so many were given, and no read failed.
pub record Adding (first now : ShelfState) (name bytes : List ℕ) : Type 0 where
  pub read : ReadsRow name 0 first.calls now.calls bytes
  pub front : IsFront first.files name bytes
  pub there : 0 < length bytes → is_missing first.files name ≡ false
  pub files : now.files ≡ first.files
  pub given : RoseBy (length bytes) first.given now.given
  pub most : now.given ≤ first.given + length bytes
  pub faults : now.faults ≡ first.faults

-- no piece yet
pub adding_none : (first : ShelfState) (name : List ℕ) → Adding first first name []
adding_none first name = record {
  read = row_none name 0 first.calls;
  front = λ told holds. refl;
  there = λ some. absurd (omega (arith, some));
  files = refl;
  given = omega arith;
  most = omega arith;
  faults = refl;
}

-- what makes nothing longer is nothing
no_more : (before more : List ℕ) → before ++ more ≡ before → more ≡ []
no_more before more is = append_cancel_left before more [] (is ∙ sym (append-nil before))

-- one piece more
pub adding_more : (first old new : ShelfState) (name before after : List ℕ) (more : Bool) → Adding first old name before → FilePieceIsRead old new name before after more
    → new.files ≡ old.files → Adding first new name after
adding_more first old new name before after more adding piece stays = record {
  read =
      let more : List ℕ = piece.read.0 in
      let row = row_one name (length before) old.calls new.calls more piece.read.2 in
      subst (λ (b : List ℕ). ReadsRow name 0 first.calls new.calls b) (sym piece.read.1)
      (row_more name 0 (length before) first.calls old.calls new.calls before more (omega arith) adding.read row);
  front = let P : Option Files → Type 0 = λ f. IsFront f name before → IsFront f name after in subst P adding.files piece.front adding.front;
  there = λ some. subst (λ f. is_missing f name ≡ false) adding.files piece.there;
  files = stays ∙ adding.files;
  given = omega (arith, adding.given, piece.given, piece.no_shorter);
  most = omega (arith, adding.most, piece.given, piece.no_shorter);
  faults = piece.faults ∙ adding.faults;
}

-- the end of the file
pub adding_ends : (first old new : ShelfState) (name before after : List ℕ) → Adding first old name before → FilePieceIsRead old new name before after false
    → length before ≤ most_file → IsFile first new name after
adding_ends first old new name before after adding piece few = record {
  read =
      let more : List ℕ = piece.read.0 in
      let none : more ≡ [] = no_more before more (sym piece.read.1 ∙ piece.same refl) in
      let last = piece.read.2 ∙ ap (λ (m : List ℕ). old.calls ++ reads name (length before) m ∷ []) none in
      subst (λ (b : List ℕ). ReadsWholeFile name first.calls new.calls b) (sym (piece.same refl))
      (row_ends name first.calls old.calls new.calls before adding.read last);
  there = subst (λ f. is_missing f name ≡ false) adding.files piece.there;
  whole = λ told holds.
      let ended = subst (λ f. Holds f name told → drop (length before) told ≡ []) adding.files (piece.end refl told) holds in
      adding.front told holds ∙ ap (λ b. before ++ b) ended ∙ append-nil before ∙ sym (piece.same refl);
  few = omega (arith, few, ap length (piece.same refl));
  given = omega (arith, adding.given, piece.given, piece.no_shorter);
  most = omega (arith, adding.most, piece.given, piece.no_shorter);
  faults = piece.faults ∙ adding.faults;
}

-- more bytes than are taken
pub adding_long : (first now : ShelfState) (name bytes : List ℕ) → Adding first now name bytes → length bytes ≤ most_file + most_piece → most_file < length bytes → IsLong first now name
adding_long first now name bytes adding few many = record {
  bytes = bytes;
  read = adding.read;
  over = many;
  few = few;
  there = adding.there (omega (arith, many));
  many = λ told holds. omega (arith, many, ap length (adding.front told holds), length-append bytes (drop (length bytes) told));
  given = omega (arith, adding.given, many);
  most = omega (arith, adding.most, few);
  faults = adding.faults;
}

-- a read that failed
reading_fails : (first old new : ShelfState) (name before : List ℕ) → Adding first old name before → FailsToRead old new name → FailsToRead first new name
reading_fails first old new name before adding (inl rose) = inl (omega (arith, rose, adding.faults))
reading_fails first old new name before adding (inr absent) =
    inr (subst (λ f. is_missing f name ≡ true) adding.files absent.0, absent.1 ∙ adding.faults)

-- why the taking fails there
pub adding_fails : (first old new : ShelfState) (name before after : List ℕ) (error : FileError) → Adding first old name before
    → length before ≤ most_file → Adds old new name before after (Err error) → FileCause first new name error
adding_fails first old new name before after Shelf adding few fails = record {
  bytes = before;
  read = subst (λ (c : List ShelfCall). ReadsRow name 0 first.calls c before) (sym fails.2) adding.read;
  few = few;
  cause = reading_fails first old new name before adding fails.0;
  most = omega (arith, adding.most, few, fails.1);
}
adding_fails first old new name before after TooLong adding few adds = absurd adds
adding_fails first old new name before after Memory adding few adds = record {
  bytes = before ++ adds.piece;
  read =
      let row = row_one name (length before) old.calls new.calls adds.piece adds.read in
      row_more name 0 (length before) first.calls old.calls new.calls before adds.piece (omega arith) adding.read row;
  few = omega (arith, few, adds.few, length-append before adds.piece);
  there = inr (subst (λ f. is_missing f name ≡ false) adding.files adds.there);
  most = omega (arith, adding.most, few, adds.most, adds.few);
  faults = adds.faults ∙ adding.faults;
}

-- there is no buffer for a piece, and nothing was read
pub adding_lacks : (first : ShelfState) (name : List ℕ) → FileCause first first name Memory
adding_lacks first name = record {
  bytes = [];
  read = row_none name 0 first.calls;
  few = omega arith;
  there = inl refl;
  most = omega arith;
  faults = refl;
}
