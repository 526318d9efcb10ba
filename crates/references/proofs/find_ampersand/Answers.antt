-- `references::find_ampersand` meets its contract. Assumes nothing.
use mathlib.Core.Path.{sym}
use Rattle.text.proofs.Lists.{told}
use Rattle.references.proofs.Bare.{sign_first}
use Rattle.references.proofs.find_ampersand.Goals as goal

pub returns-then-is_at : goal.returns-then-is_at
returns-then-is_at c = sym (sign_first _ (told c.is_at.ensures c.if-is_at.true))
