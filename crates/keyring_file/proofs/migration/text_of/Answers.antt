-- The text, and a line feed behind it, are read as the value.
use Rattle.std.proofs.Common.{rules, ◌≡◌, [], ◌∷◌, ◌++◌, sym, subst}
use Rattle.serde_json.specs.View.{view}
use Rattle.keyring_file.specs.Migrate.{IsFileOf}
use Rattle.keyring_file.proofs.Fed.{written_file}
use Rattle.keyring_file.proofs.migration.text_of.Goals as goal

pub returns : goal.returns
returns c =
    let text = c.in_ok-text.ensures in
    let whole : c.push_all-2.new.self ≡ c.in_ok-text.text.items ++ 10 ∷ [] = search rules in
    subst (λ bytes. IsFileOf bytes (view c.args.file.now)) (sym whole)
    (written_file c.in_ok-text.text.items (view c.args.file.now) c.requires.plain c.requires.object (text.text c.requires.plain.whole) text.compact text.utf8 text.order
    (text.reads_back c.requires.plain.shallow))
