-- What the work of a request ends with, before anything is written.
use Rattle.std.specs.Prelude.{ℕ, List, Option, Some, None, Result, Ok, Err, IfOk}
use Rattle.std.specs.Option.{ForSome}
use Rattle.std.specs.declared.alloc.AllocError.{AllocError}
use Rattle.outside_io.specs.Seen.{Outside}
use Rattle.mono_top.specs.Answer.{Answers}
use Rattle.mono_top.specs.Fetch.{text_of}
use Rattle.mono_top.specs.Reading.{HoldsFirst}
use Rattle.mono_top.specs.Request.{Request, files_of}
use Rattle.mono_top.specs.declared.reply.Reply.{Reply}
use Rattle.mono_top.specs.declared.status.Status.{Status}

-- a reply whose status and text are due, where there was memory for it
abbrev pub RepliesWith : (Status → List ℕ → Type 0) → Result Reply AllocError → Type 0
RepliesWith Due result = IfOk result (λ reply. Due reply.status (text_of reply.text))

-- a reply that is due; or want of memory, which a command meets only where its first file is held
abbrev pub Replies : Option Request → Outside → Result Reply AllocError → Type 0
Replies request outside (Ok reply) = Answers request outside reply.status (text_of reply.text)
Replies None outside (Err error) = ⊥
Replies (Some command) outside (Err error) = ForSome outside.holds (λ files. HoldsFirst files (files_of (Some command)))
