mod GapLaws
mod ReasonLaws
mod QuietLaws
mod StepLaws
mod WorkLaws
mod ListingLaws
