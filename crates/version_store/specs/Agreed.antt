-- The rule between the deployer and its readers: what is shown, and what each of them knows, is of one book.
use Rattle.std.specs.Prelude.{◌≡◌, ℕ, List, Option, Some, None}
use mathlib.Core.List.{IsPrefix}
use mathlib.Core.Option.{some}
use lib.ListN.{get_elem?}
use Rattle.logbook.specs.Pages.{Book, Named}
use Rattle.version_store.specs.declared.deployed.Deployed.{Deployed}
use Rattle.version_store.specs.Books.{Page}
use Rattle.version_store.specs.Rules.{head_of}

-- whoever knows a page knows one of this book
abbrev pub Agrees : Book → Option Page → Type 0
Agrees book None = Unit {0}
Agrees book (Some page) = page.book ≡ book

-- a page is known, and it is of this book
abbrev pub Knows : Book → Option Page → Type 0
Knows book None = ⊥
Knows book (Some page) = page.book ≡ book

abbrev pub AllAgree : Book → List (Option Page) → Type 0
AllAgree book views = (seat : ℕ) (view : Option Page) → get_elem? views seat ≡ some view → Agrees book view

abbrev pub AgreeOn : Deployed → List (Option Page) → Type 0
AgreeOn shown views = AllAgree shown.front.book views

-- a look leaves what was known, which is of the book of what is seen
abbrev pub Looks : Option Page → Deployed → Deployed → Option Page → Type 0
Looks before shown next after = (after ≡ before) × Agrees next.front.book before

-- a publication makes the page that it shows known
abbrev pub Shows : Option Page → Deployed → Deployed → Option Page → Type 0
Shows before shown next after = after ≡ Some next.front

-- a page is known and shown
abbrev pub IsShowing : Page → Option Page → Deployed → Type 0
IsShowing page known shown = (known ≡ Some page) × (shown.front ≡ page)

-- a deployer's page: it has its book's word, shows the page, and knows one of that book
abbrev pub IsLine : Page → Named → Option Page → Deployed → Type 0
IsLine page head known shown = (head ≡ head_of page.book) × (shown.front ≡ page) × Knows page.book known

-- a reader's pages: what is due begins with what was picked, and a page of their book is known
abbrev pub IsReading : Page → Page → Option Page → Type 0
IsReading picked due known = (due.book ≡ picked.book) × IsPrefix picked.notices due.notices × Knows picked.book known
