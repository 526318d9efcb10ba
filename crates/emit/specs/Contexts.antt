-- The code's context as the definitions have it, and the contexts that share a part of it: what a function asks of that part alone, it says of each of these.
use Rattle.std.specs.Prelude.{Bool, List, ℕ}
use Rattle.definitions.specs.declared.options.Settings.{Settings}
use Rattle.definitions.specs.Lowering as lowering
use Rattle.emit.specs.declared.context.Context.{Context}

abbrev pub context_of : Context → lowering.Context
context_of c = record { text = c.text.now; settings = c.settings.now; self_allowed = c.self_allowed }

-- over the same text
abbrev pub over_text : Context → Settings → Bool → lowering.Context
over_text c s b = record { text = c.text.now; settings = s; self_allowed = b }

-- over the same settings
abbrev pub over_settings : Context → List ℕ → Bool → lowering.Context
over_settings c t b = record { text = t; settings = c.settings.now; self_allowed = b }

-- over the same text and settings
abbrev pub over_both : Context → Bool → lowering.Context
over_both c b = record { text = c.text.now; settings = c.settings.now; self_allowed = b }

-- over another text
abbrev pub over_other_text : Context → List ℕ → lowering.Context
over_other_text c t = record { text = t; settings = c.settings.now; self_allowed = c.self_allowed }
