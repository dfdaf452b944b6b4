pub mod Cut
pub mod CutLaws
pub mod LetterField
pub mod LetterLaws
pub mod Letters
pub mod OneCut
