-- The six tables of a book.
use Rattle.rules.specs.Contents.{Content}
use Rattle.intake.specs.declared.book.Book.{Book}
use Rattle.intake.specs.Fillings.{tables}

abbrev pub content_of_book : Book → Content
content_of_book b = tables b.groups b.seats b.reserves b.trainees b.contracts b.bars
