-- What contracts see of who publishes, of what it tells, and of who picks.
use Rattle.std.specs.Prelude.{◌≡◌, List, [], ◌∷◌, ◌++◌}
use Rattle.logbook.specs.Pages.{Book}
use Rattle.version_store.specs.declared.notice.Notice.{Notice}

-- a published list, and which store it is of
pub record Page : Type 0 where
  pub book : Book
  pub notices : List Notice

-- the same store's list, with one notice more
abbrev pub grown : Page → Notice → Page
grown page notice = record { book = page.book; notices = page.notices ++ notice ∷ [] }

-- what a reader knows of a store's list: as it was at the last pick, and the longest that it picked or was told of
pub record Learnt : Type 0 where
  pub book : Book
  pub known : List Notice
  pub due : List Notice

-- a new reader knows the list as it is
abbrev pub Opens : Page → Learnt → Type 0
Opens page reader = reader ≡ record { book = page.book; known = page.notices; due = page.notices }
