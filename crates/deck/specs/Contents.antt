-- What a deck holds, without the memory that holds it: the pure data that boards and rounds speak of.
use Rattle.std.specs.Prelude.{ℕ, List}
use Rattle.rules.specs.Contents.{Content, content_of}
use Rattle.deck.specs.declared.deck.Deck.{Deck}

abbrev pub data_of : Deck → Content
data_of d = content_of d.tables

abbrev pub bytes_of : Deck → List ℕ
bytes_of d = d.bytes.now
