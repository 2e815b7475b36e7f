-- The command that a line has: its name, and what its arguments have to be.
use Rattle.std.specs.Prelude.{◌≡◌, cond, List, [], ◌∷◌, Some, None, Ok, Err, codes, Option, ok_or, Result, MatchResult, ◌≢◌}
use Rattle.std.specs.Borrow.{Bor}
use Rattle.kind.specs.Answers.{and_then}
use Rattle.std.specs.Str.{bytes_eq}
use Rattle.script.specs.Arguments.{Text, word, number, ended, number_or_none, only_word, only_number, two_numbers, number_and_word}
use Rattle.script.specs.Line.{words, uncommented}
use Rattle.script.specs.declared.error.ScriptError.{ScriptError}
use Rattle.script.specs.declared.error.ScriptError.TheVariants.{Blank, Unknown}
use Rattle.script.specs.declared.command.Command.{Command}
use Rattle.script.specs.declared.command.Command.TheVariants as command
use Rattle.script.specs.declared.command.Field.{Field}
use Rattle.script.specs.declared.command.Field.TheVariants as field
use Rattle.script.specs.declared.command.Verb.{Verb}
use Rattle.script.specs.declared.command.Verb.TheVariants as verb

abbrev pub spelling : Verb → Text
spelling verb.Format = codes "format"
spelling verb.Write = codes "write"
spelling verb.Read = codes "read"
spelling verb.Span = codes "span"
spelling verb.Revert = codes "revert"
spelling verb.Check = codes "check"
spelling verb.Work = codes "work"
spelling verb.Roll = codes "roll"
spelling verb.Replay = codes "replay"
spelling verb.Image = codes "image"
spelling verb.Save = codes "save"
spelling verb.Load = codes "load"
spelling verb.Recall = codes "recall"
spelling verb.Items = codes "items"
spelling verb.Bytes = codes "bytes"
spelling verb.Dump = codes "dump"
spelling verb.Log = codes "log"
spelling verb.Cells = codes "cells"
spelling verb.Heads = codes "heads"
spelling verb.Count = codes "count"
spelling verb.Poke = codes "poke"

-- no command begins with w
abbrev pub NoVerb : Text → Type 0
NoVerb w = (v : Verb) → w ≢ spelling v

-- a command, with its words
abbrev pub Meant : Type 0
Meant = Command Text (List Text)

-- the command with the texts that its words hold
abbrev pub shown : Command (Bor Text) (Bor Text) → Meant
shown (command.Format k n c h) = command.Format k.now n c h
shown (command.Write c s) = command.Write c s.now
shown (command.Read c) = command.Read c
shown (command.Span c a b) = command.Span c a b
shown (command.Revert m) = command.Revert m
shown (command.Check w) = command.Check w
shown command.Work = command.Work
shown (command.Roll a b) = command.Roll a b
shown (command.Replay m) = command.Replay m
shown command.Image = command.Image
shown command.ImageLive = command.ImageLive
shown (command.ImageSet c s) = command.ImageSet c s.now
shown (command.ImageLength n) = command.ImageLength n
shown (command.Save p a) = command.Save p.now a
shown (command.Load p) = command.Load p.now
shown (command.Recall p c m a) = command.Recall p.now c m a
shown (command.Items p) = command.Items p.now
shown (command.Bytes p h) = command.Bytes p.now (words h.now)
shown (command.Dump p) = command.Dump p.now
shown command.Log = command.Log
shown command.Cells = command.Cells
shown command.Heads = command.Heads
shown command.Count = command.Count
shown (command.PokeCell c s) = command.PokeCell c s.now
shown (command.PokeHead c r) = command.PokeHead c r
shown (command.PokeCount n) = command.PokeCount n
shown (command.PokeRecord r f v) = command.PokeRecord r f v.now

-- what the arguments of a command make
abbrev pub Made : Type 0
Made = Result Meant ScriptError

abbrev pub format_of : List Text → Made
format_of ws = and_then (word ws) (λ k. and_then (number k.1) (λ n. and_then (number n.1) (λ c. and_then (number_or_none c.1) (λ h. Ok (command.Format k.0 n.0 c.0 h)))))

abbrev pub span_of : List Text → Made
span_of ws = and_then (number ws) (λ c. and_then (two_numbers c.1) (λ m. Ok (command.Span c.0 m.0 m.1)))

abbrev pub image_part : Text → List Text → Made
image_part w ws =
    cond (bytes_eq w (codes "live")) (and_then (ended ws) (λ _. Ok command.ImageLive)) (
    cond (bytes_eq w (codes "set")) (and_then (number_and_word ws) (λ p. Ok (command.ImageSet p.0 p.1))) (
    cond (bytes_eq w (codes "length")) (and_then (only_number ws) (λ n. Ok (command.ImageLength n))) (
    Err Unknown)))

abbrev pub image_of : List Text → Made
image_of [] = Ok command.Image
image_of (w ∷ ws) = image_part w ws

abbrev pub save_of : List Text → Made
save_of ws = and_then (word ws) (λ p. and_then (number_or_none p.1) (λ a. Ok (command.Save p.0 a)))

abbrev pub recall_of : List Text → Made
recall_of ws = and_then (word ws) (λ p. and_then (number p.1) (λ c. and_then (number c.1) (λ m. and_then (number_or_none m.1) (λ a. Ok (command.Recall p.0 c.0 m.0 a)))))

abbrev pub bytes_of : List Text → Made
bytes_of ws = and_then (word ws) (λ p. Ok (command.Bytes p.0 p.1))

abbrev pub field_of : Text → Result Field ScriptError
field_of w =
    cond (bytes_eq w (codes "cell")) (Ok field.Cell) (
    cond (bytes_eq w (codes "next")) (Ok field.Next) (
    cond (bytes_eq w (codes "skip")) (Ok field.Skip) (
    cond (bytes_eq w (codes "length")) (Ok field.Length) (
    cond (bytes_eq w (codes "foot")) (Ok field.Foot) (
    cond (bytes_eq w (codes "change")) (Ok field.Change) (
    cond (bytes_eq w (codes "fold")) (Ok field.Fold) (
    Err Unknown)))))))

abbrev pub poke_record_of : List Text → Made
poke_record_of ws = and_then (number ws) (λ r. and_then (word r.1) (λ f. and_then (field_of f.0) (λ k. and_then (only_word f.1) (λ v. Ok (command.PokeRecord r.0 k v)))))

abbrev pub poke_part : Text → List Text → Made
poke_part w ws =
    cond (bytes_eq w (codes "cell")) (and_then (number_and_word ws) (λ p. Ok (command.PokeCell p.0 p.1))) (
    cond (bytes_eq w (codes "head")) (and_then (two_numbers ws) (λ p. Ok (command.PokeHead p.0 p.1))) (
    cond (bytes_eq w (codes "count")) (and_then (only_number ws) (λ n. Ok (command.PokeCount n))) (
    cond (bytes_eq w (codes "record")) (poke_record_of ws) (
    Err Unknown))))

abbrev pub poke_of : List Text → Made
poke_of ws = and_then (word ws) (λ p. poke_part p.0 p.1)

abbrev pub alone_of : Meant → List Text → Made
alone_of c ws = and_then (ended ws) (λ _. Ok c)

abbrev pub arguments_of : Verb → List Text → Made
arguments_of verb.Format ws = format_of ws
arguments_of verb.Write ws = and_then (number_and_word ws) (λ p. Ok (command.Write p.0 p.1))
arguments_of verb.Read ws = and_then (only_number ws) (λ c. Ok (command.Read c))
arguments_of verb.Span ws = span_of ws
arguments_of verb.Revert ws = and_then (only_number ws) (λ m. Ok (command.Revert m))
arguments_of verb.Check ws = and_then (number_or_none ws) (λ n. Ok (command.Check n))
arguments_of verb.Work ws = alone_of command.Work ws
arguments_of verb.Roll ws = and_then (two_numbers ws) (λ m. Ok (command.Roll m.0 m.1))
arguments_of verb.Replay ws = and_then (only_number ws) (λ m. Ok (command.Replay m))
arguments_of verb.Image ws = image_of ws
arguments_of verb.Save ws = save_of ws
arguments_of verb.Load ws = and_then (only_word ws) (λ p. Ok (command.Load p))
arguments_of verb.Recall ws = recall_of ws
arguments_of verb.Items ws = and_then (only_word ws) (λ p. Ok (command.Items p))
arguments_of verb.Bytes ws = bytes_of ws
arguments_of verb.Dump ws = and_then (only_word ws) (λ p. Ok (command.Dump p))
arguments_of verb.Log ws = alone_of command.Log ws
arguments_of verb.Cells ws = alone_of command.Cells ws
arguments_of verb.Heads ws = alone_of command.Heads ws
arguments_of verb.Count ws = alone_of command.Count ws
arguments_of verb.Poke ws = poke_of ws

abbrev pub verbs : List Verb
verbs = verb.Format ∷ verb.Write ∷ verb.Read ∷ verb.Span ∷ verb.Revert ∷ verb.Check ∷ verb.Work ∷ verb.Roll ∷ verb.Replay ∷ verb.Image ∷ verb.Save ∷ verb.Load ∷ verb.Recall ∷ verb.Items ∷ verb.Bytes ∷ verb.Dump ∷ verb.Log ∷ verb.Cells ∷ verb.Heads ∷ verb.Count ∷ verb.Poke ∷ []

-- the verb of the list that is spelled so
abbrev pub verb_in : List Verb → Text → Option Verb
verb_in [] w = None
verb_in (v ∷ vs) w = cond (bytes_eq w (spelling v)) (Some v) (verb_in vs w)

unfoldable pub verb_of : Text → Option Verb
verb_of w = verb_in verbs w

-- r is the verb that w spells, or that it spells none
pub record IsVerb (w : Text) (r : Result Verb ScriptError) : Type 0 where
  pub read : r ≡ ok_or (verb_of w) Unknown
  pub spelled : MatchResult r (λ v. w ≡ spelling v) (λ _. NoVerb w)

abbrev pub with_verb : Option Verb → List Text → Made
with_verb None ws = Err Unknown
with_verb (Some v) ws = arguments_of v ws

abbrev pub with_words : List Text → Made
with_words [] = Err Blank
with_words (w ∷ ws) = with_verb (verb_of w) ws

-- the command of a line
abbrev pub command_of : Text → Made
command_of line = with_words (words (uncommented line))
