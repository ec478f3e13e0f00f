use Rattle.case_report.specs.Mistake.{in_words, reason_text}
use Rattle.case_report.proofs.reasons.words.Goals as goal

pub returns-in-UnknownWord : goal.returns-in-UnknownWord
unfolding in_words reason_text
returns-in-UnknownWord c = rw c.in-UnknownWord.is

pub returns-in-FieldMissing : goal.returns-in-FieldMissing
unfolding in_words reason_text
returns-in-FieldMissing c = rw c.in-FieldMissing.is

pub returns-in-FieldTooMany : goal.returns-in-FieldTooMany
unfolding in_words reason_text
returns-in-FieldTooMany c = rw c.in-FieldTooMany.is

pub returns-in-NotANumber : goal.returns-in-NotANumber
unfolding in_words reason_text
returns-in-NotANumber c = rw c.in-NotANumber.is

pub returns-in-NotAWord : goal.returns-in-NotAWord
unfolding in_words reason_text
returns-in-NotAWord c = rw c.in-NotAWord.is

pub returns-in-NotAName : goal.returns-in-NotAName
unfolding in_words reason_text
returns-in-NotAName c = rw c.in-NotAName.is

pub returns-in-NotABit : goal.returns-in-NotABit
unfolding in_words reason_text
returns-in-NotABit c = rw c.in-NotABit.is

pub returns-in-NoSuchRegister : goal.returns-in-NoSuchRegister
unfolding in_words reason_text
returns-in-NoSuchRegister c = rw c.in-NoSuchRegister.is

pub returns-in-NoSuchPredicate : goal.returns-in-NoSuchPredicate
unfolding in_words reason_text
returns-in-NoSuchPredicate c = rw c.in-NoSuchPredicate.is

pub returns-in-NoSuchSpecial : goal.returns-in-NoSuchSpecial
unfolding in_words reason_text
returns-in-NoSuchSpecial c = rw c.in-NoSuchSpecial.is

pub returns-in-NoSuchTransfer : goal.returns-in-NoSuchTransfer
unfolding in_words reason_text
returns-in-NoSuchTransfer c = rw c.in-NoSuchTransfer.is

pub returns-in-NoSuchItem : goal.returns-in-NoSuchItem
unfolding in_words reason_text
returns-in-NoSuchItem c = rw c.in-NoSuchItem.is

pub returns-in-LineTooLong : goal.returns-in-LineTooLong
unfolding in_words reason_text
returns-in-LineTooLong c = rw c.in-LineTooLong.is

pub returns-in-BeforeFirstCase : goal.returns-in-BeforeFirstCase
unfolding in_words reason_text
returns-in-BeforeFirstCase c = rw c.in-BeforeFirstCase.is

pub returns-in-AfterOperation : goal.returns-in-AfterOperation
unfolding in_words reason_text
returns-in-AfterOperation c = rw c.in-AfterOperation.is

pub returns-in-Repeated : goal.returns-in-Repeated
unfolding in_words reason_text
returns-in-Repeated c = rw c.in-Repeated.is

pub returns-in-TooMuchCode : goal.returns-in-TooMuchCode
unfolding in_words reason_text
returns-in-TooMuchCode c = rw c.in-TooMuchCode.is

pub returns-in-TooMuchMemory : goal.returns-in-TooMuchMemory
unfolding in_words reason_text
returns-in-TooMuchMemory c = rw c.in-TooMuchMemory.is

pub returns-in-PlaceOutside : goal.returns-in-PlaceOutside
unfolding in_words reason_text
returns-in-PlaceOutside c = rw c.in-PlaceOutside.is

pub returns-in-UnseenByte : goal.returns-in-UnseenByte
unfolding in_words reason_text
returns-in-UnseenByte c = rw c.in-UnseenByte.is

pub returns-in-NoSuchInstruction : goal.returns-in-NoSuchInstruction
unfolding in_words reason_text
returns-in-NoSuchInstruction c = rw c.in-NoSuchInstruction.is

pub returns-in-NotARegister : goal.returns-in-NotARegister
unfolding in_words reason_text
returns-in-NotARegister c = rw c.in-NotARegister.is

pub returns-in-NotAPredicate : goal.returns-in-NotAPredicate
unfolding in_words reason_text
returns-in-NotAPredicate c = rw c.in-NotAPredicate.is

pub returns-in-NotASpecial : goal.returns-in-NotASpecial
unfolding in_words reason_text
returns-in-NotASpecial c = rw c.in-NotASpecial.is

pub returns-in-NotAnOffset : goal.returns-in-NotAnOffset
unfolding in_words reason_text
returns-in-NotAnOffset c = rw c.in-NotAnOffset.is

pub returns-in-TooManyProducts : goal.returns-in-TooManyProducts
unfolding in_words reason_text
returns-in-TooManyProducts c = rw c.in-TooManyProducts.is

pub returns-in-TooManyHeld : goal.returns-in-TooManyHeld
unfolding in_words reason_text
returns-in-TooManyHeld c = rw c.in-TooManyHeld.is

pub returns-in-TooMuchRecord : goal.returns-in-TooMuchRecord
unfolding in_words reason_text
returns-in-TooMuchRecord c = rw c.in-TooMuchRecord.is

pub returns-in-NoSuchVector : goal.returns-in-NoSuchVector
unfolding in_words reason_text
returns-in-NoSuchVector c = rw c.in-NoSuchVector.is

pub returns-in-TooManyInterrupts : goal.returns-in-TooManyInterrupts
unfolding in_words reason_text
returns-in-TooManyInterrupts c = rw c.in-TooManyInterrupts.is

pub returns-in-TooMuchReplay : goal.returns-in-TooMuchReplay
unfolding in_words reason_text
returns-in-TooMuchReplay c = rw c.in-TooMuchReplay.is
