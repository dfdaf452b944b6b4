-- What is said of each number that a call can give.
-- Assumes nothing.
use Rattle.std.specs.Prelude.{ℕ, List, codes}

-- a line for each number, from 0 on
abbrev pub sentences : List ℕ
sentences = codes "done\nan order is not lawful, the key's number is above 255, or a keeper's is outside 1..N of its order: an order T,F,N has T from 1 to 7, F from 0 to T, and N from T+4F+1 to 16\nthe secret's length is outside 1..952: of a longer secret, encrypt it and cut the key that opens it\nthe stamp is 0: the first cut of a key has stamp 1, each later one a greater stamp\na letter, a sub-letter and a desk have 2048 bytes, and this has not, or --keepers has not T+1 numbers, with the T of --from: ask for the letter anew; a desk that is spoiled, move away and store anew\na random word is above 256\ntoo few usable letters: no T+F+1 of this order and key have one stamp and length: ask more keepers; 'csalgodes show' says what a letter is of\nno polynomials match enough letters: ask more keepers, or look at what changed with 'csalgodes compare'\nthe letters match, but what they give is no secret: more of them are wrong than F: ask more keepers, or look at what changed with 'csalgodes compare'\na word is above 256: the letter is damaged, or no letter: ask for it anew\na check word is wrong: the letter is damaged: ask for it anew\nword 0 or 1 is wrong: it is no letter (or no sub-letter, where one goes), or a damaged one: ask for it anew\na header word is wrong: it is no letter, or a damaged one: ask for it anew\nwhat stands past the secret's end is not zero: it is no letter, or a damaged one: ask for it anew\nit is older than the letter held: the desk keeps the newer one, and all is well unless you know better\nit has the stamp of the letter held, and other bytes: the desk keeps what it holds: whoever cuts takes a new stamp for each cut\na good letter or sub-letter, but of another order, key, keeper, stamp or length than you told: 'csalgodes show' says what a letter is of: take it to its own desk, or tell what it is of\nnothing good of this order, key and keeper is held: store a letter first\nthere are more differences than places to list them\nan old keeper is repeated, missing, not told, or changes between blocks: list each old keeper once, and put its sub-letter into the file of its number\nthe stamp is not above the old letter's: 'csalgodes show' says the old stamp: take a greater one, the same at all old keepers"
