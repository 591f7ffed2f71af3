-- An ending that is that of some reversing.
use Rattle.std.specs.Prelude.{List, ℕ}
use Rattle.model.specs.Word.{Word}
use Rattle.model.specs.Presentation.{Presentation}
use Rattle.model.specs.declared.answers.Ending.{Ending}
use Rattle.engine.specs.Run.{Reverses}

pub record SomeReverses (workspace : List ℕ) (ending : Ending) : Type 0 where
  pub table : Presentation
  pub word : Word
  pub budget : ℕ
  pub reverses : Reverses table word budget workspace ending
